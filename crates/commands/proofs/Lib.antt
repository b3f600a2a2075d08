mod Examples
pub mod FromSheetProblems
pub mod Marks
pub mod Naming
pub mod Others
pub mod Quotes
pub mod Saying
pub mod Certificates
pub mod Spelled
pub mod Unspelled
