pub mod FoundEnds
pub mod FromSheetSolving
