pub mod Finding
pub mod FromSheetSolving
