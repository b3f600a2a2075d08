pub mod FirstRefusal
pub mod FromSheetProblems
pub mod Laws
pub mod Needed
