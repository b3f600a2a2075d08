pub mod FromSheetLinearModel
pub mod NoForms
