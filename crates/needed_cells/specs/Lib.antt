pub mod Finding
pub mod FromExtract
pub mod Settled
