pub mod Trying
pub mod Giving
pub mod Arrays
