pub mod Steps
pub mod Parts
pub mod Origins
pub mod Tables
pub mod Walks
pub mod Examples
