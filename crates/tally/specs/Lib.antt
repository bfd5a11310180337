-- What the contracts of the tally cite.
pub mod Tallies
