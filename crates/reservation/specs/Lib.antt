-- What the register's contracts cite beside the rules: first what a reader must believe, then what the functions ask of each other.
pub mod Standing
pub mod Fields
pub mod Registers
pub mod Calls
pub mod Demands
pub mod Parts
