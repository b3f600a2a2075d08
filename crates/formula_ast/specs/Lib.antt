pub mod Functions
pub mod Tree
pub mod Sound
pub mod Measures
pub mod View
pub mod Code
pub mod Size
pub mod TreeFalls
