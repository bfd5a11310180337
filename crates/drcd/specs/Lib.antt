-- What the contracts of drcd cite.
pub mod Given
pub mod Order
pub mod Inputs
pub mod Trials
pub mod Choice
