-- Laws of the tally.
pub mod Ratios
