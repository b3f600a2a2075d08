pub mod Saving
pub mod Laws
pub mod Widths
