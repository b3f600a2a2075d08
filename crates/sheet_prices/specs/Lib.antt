pub mod Answers
pub mod Examples
pub mod FromSheetProblems
pub mod Inner
pub mod Laws
pub mod Prices
pub mod Raised
