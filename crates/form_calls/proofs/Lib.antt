pub mod Outcomes
pub mod Chosen
pub mod Sourced
pub mod InRows
pub mod Looked
pub mod Summed
pub mod Recorded
pub mod Whole
