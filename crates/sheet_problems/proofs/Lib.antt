pub mod Numbers
pub mod Reaching
pub mod Placed
pub mod Stating
pub mod Fitting
pub mod Modelled
mod ByExample
