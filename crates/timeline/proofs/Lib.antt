-- Laws that the functions' proofs cite.
pub mod Drawing
pub mod Walks
pub mod Found
pub mod Inserted
pub mod Closed
pub mod ColumnLaws
pub mod Grown
pub mod Marked
pub mod Packed
pub mod Costed
pub mod Agreeing
pub mod RowLines
pub mod Keeping
