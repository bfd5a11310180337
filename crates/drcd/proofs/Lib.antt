-- Laws that the functions' proofs cite.
pub mod Foremost
pub mod Sending
pub mod Trying
pub mod TriedRows
pub mod Attempts
pub mod Chosen
pub mod Listed
pub mod Waiting
pub mod NextTask
pub mod Gathered
pub mod Least
