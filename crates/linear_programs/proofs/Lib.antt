pub mod Vectors
pub mod LeafProofs
pub mod Ranges
