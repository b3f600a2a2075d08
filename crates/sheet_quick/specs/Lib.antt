pub mod Parameters
pub mod Opened
pub mod Giving
pub mod Laws
pub mod Opening
pub mod Inner
