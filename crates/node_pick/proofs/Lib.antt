pub mod Bounds
pub mod Rising
