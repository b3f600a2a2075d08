pub mod Sums
pub mod Prices
pub mod Answers
pub mod Truth
