pub mod Greatest
pub mod Used
pub mod Reached
pub mod Passes
pub mod SavedFields
pub mod Back
pub mod Rows
pub mod Examples
