pub mod Entries
pub mod FromSheetModel
pub mod Grids
pub mod Known
pub mod Meaning
pub mod OpenForms
pub mod Refusals
pub mod Trials
