pub mod Reached
pub mod Edited
pub mod Tested
mod ByExample
