pub mod Codes
pub mod FromBranchBound
pub mod FromSheetSolving
pub mod FromTouchedPlaces
pub mod FromWriteBack
pub mod Inner
pub mod Kept
pub mod References
