pub mod States
pub mod Steps
pub mod Searches
pub mod Fields
pub mod Ends
pub mod Told
pub mod Slices
