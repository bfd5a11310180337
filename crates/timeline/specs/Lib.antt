-- What the timeline's contracts cite.
pub mod Spans
pub mod Fields
pub mod Timeline
pub mod RowLine
pub mod Grown
pub mod Notes
pub mod Packing
pub mod TakenOut
pub mod Beside
pub mod Lines
pub mod Bookings
