-- What the contracts of screening cite.
pub mod Screens
