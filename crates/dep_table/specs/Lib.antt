pub mod References
pub mod Order
pub mod Formulas
pub mod Edges
pub mod Tour
pub mod Spreading
pub mod Affected
