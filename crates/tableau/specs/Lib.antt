pub mod Entries
pub mod Rows
pub mod Changed
pub mod Table
pub mod Fields
pub mod Runs
pub mod Factors
