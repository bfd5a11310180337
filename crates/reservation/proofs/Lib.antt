-- Laws that the functions' proofs cite.
pub mod Values
pub mod Slotted
pub mod Joined
pub mod Staying
pub mod Leaving
pub mod Stepped
pub mod Sighted
pub mod Said
pub mod Demands
pub mod Demand3
