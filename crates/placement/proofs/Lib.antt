-- Laws that the functions' proofs cite.
pub mod Floors
pub mod Pushing
pub mod Appending
pub mod Placed
pub mod Turning
