pub mod Cuts
pub mod Prefixes
pub mod Slices
pub mod Words
