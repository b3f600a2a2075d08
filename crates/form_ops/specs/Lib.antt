pub mod FromFormTruth
pub mod Operands
pub mod Pairings
pub mod Refusals
pub mod SeenLogicals
pub mod SeenNumbers
pub mod Sides
pub mod Truths
