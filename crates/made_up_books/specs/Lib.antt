pub mod MadeUp
pub mod Putting
pub mod Examples
