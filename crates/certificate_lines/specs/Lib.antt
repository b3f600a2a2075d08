pub mod Line
pub mod Cert
pub mod Machine
pub mod Heads
pub mod Reading
pub mod Cutting
pub mod Laws
