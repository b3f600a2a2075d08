pub mod Certificates
pub mod Readable
