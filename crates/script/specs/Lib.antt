-- The program `register` as definitions: first what a reader must believe, then what the functions ask of each other.
pub mod Keys
pub mod Acts
pub mod Replies
pub mod Listing
pub mod Program
pub mod Demands
pub mod Laws
pub mod Contract
pub mod Kinds
pub mod Called
pub mod Parts
