-- What the texts' contracts cite beside the rules and lines: first what a reader must believe, then what the functions ask of each other.
pub mod Forms
pub mod JobText
pub mod Laws
pub mod Reader
pub mod Writer
pub mod Stages
pub mod Parts
pub mod Rows
pub mod Examples
