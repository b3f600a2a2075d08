pub mod Entering
pub mod Leaving
pub mod Ratios
pub mod Lookups
pub mod Answering
pub mod Nexts
pub mod CellNumbers
pub mod Both
