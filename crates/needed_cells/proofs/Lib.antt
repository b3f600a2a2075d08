pub mod Adding
pub mod Circles
pub mod FromExtract
pub mod Sides
pub mod Spreading
pub mod Texts
