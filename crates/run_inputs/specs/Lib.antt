pub mod Stops
pub mod Opening
pub mod Findings
pub mod Inputs
pub mod Numbers
