-- Laws that the functions' proofs cite.
pub mod Acted
pub mod Fields
pub mod TimelineOrder
pub mod Held
pub mod Listed
pub mod Running
pub mod Demand3
pub mod Sorted
