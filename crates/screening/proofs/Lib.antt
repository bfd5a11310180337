-- Laws that the functions' proofs cite.
pub mod Listed
pub mod Ranged
pub mod Ascending
pub mod Feasible
pub mod Firsts
