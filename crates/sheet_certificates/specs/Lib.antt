pub mod Certified
pub mod Inner
pub mod Laws
