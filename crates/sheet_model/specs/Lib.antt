pub mod Tests
pub mod Conversions
pub mod Comparison
pub mod Grids
pub mod Operators
pub mod Answers
pub mod Sides
