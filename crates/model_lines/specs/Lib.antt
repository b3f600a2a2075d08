pub mod Cells
pub mod Lines
pub mod Groups
pub mod Ended
