pub mod Formulas
pub mod Codes
pub mod Strips
pub mod Columns
pub mod Kept
pub mod Affected
pub mod Marks
pub mod Rows
