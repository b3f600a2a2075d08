pub mod Numbering
pub mod PlaceForms
pub mod Held
pub mod Stating
pub mod SameModel
mod Counted
pub mod Fitting
pub mod Steps
