pub mod Criteria
pub mod FromFormParts
pub mod Lookups
pub mod Sources
pub mod Steps
