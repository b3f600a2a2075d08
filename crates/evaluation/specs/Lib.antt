pub mod Parts
pub mod Looked
pub mod Tables
pub mod Composed
