pub mod FromDepTable
pub mod FromExtractIncr
pub mod FromKeptForms
pub mod FromSheetLinearModel
