-- Laws that the functions' proofs cite.
pub mod Testing
pub mod Owning
pub mod Undoing
pub mod LastFinish
pub mod Joining
pub mod Admitting
pub mod Settling
pub mod Judging
pub mod NewRows
pub mod Submitting
