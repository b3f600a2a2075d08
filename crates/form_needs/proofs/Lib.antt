pub mod FromSheetProblems
pub mod Numbers
pub mod One
