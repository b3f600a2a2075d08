pub mod Exits
pub mod Surroundings
