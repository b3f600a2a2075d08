pub mod Ended
pub mod Cells
mod Examples
