pub mod Entries
pub mod Walks
pub mod Evaluation
pub mod Recalculation
pub mod Looks
pub mod Looking
pub mod Narrow
pub mod Laws
