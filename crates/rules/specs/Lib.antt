-- The rules of the cluster register: a file for each section of document 01, in its order; then what is shown of them.
pub mod Sequences
pub mod Words
pub mod Placing
pub mod Withdrawing
pub mod Refusals
pub mod Answers
pub mod Kinds
pub mod Journal
pub mod Ledger
pub mod Examples
pub mod Laws
pub mod Demands
pub mod Bounds
pub mod Asked
pub mod Codes
pub mod Arrays
