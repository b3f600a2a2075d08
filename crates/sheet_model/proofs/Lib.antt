pub mod NumberTests
pub mod Calculated
pub mod Spreading
pub mod InfixAnswers
pub mod Orders
