-- What the contracts of placement cite.
pub mod Own
pub mod Bookings
pub mod Appending
pub mod Placements
