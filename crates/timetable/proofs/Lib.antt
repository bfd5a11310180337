-- Laws that the functions' proofs cite.
pub mod Lists
pub mod Steps
pub mod Lines
pub mod Extremes
pub mod Carried
pub mod Noted
pub mod Ends
pub mod Fresh
pub mod Standing
pub mod Judging
pub mod Removed
pub mod Left
