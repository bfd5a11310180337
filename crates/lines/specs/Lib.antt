-- What the contracts of lines cite: first what a reader must believe, then what the functions ask of each other.
pub mod Figures
pub mod Lines
pub mod Readings
pub mod Laws
pub mod DueLines
pub mod Parts
pub mod Put
