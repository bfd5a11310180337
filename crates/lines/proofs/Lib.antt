-- Laws of figures and lines, and those that the functions' proofs cite.
pub mod Digits
pub mod Begun
pub mod Decimals
pub mod Standing
pub mod LineLaws
pub mod Scanned
pub mod Numbers
pub mod Lined
pub mod Readings
pub mod Put
