pub mod Showing
pub mod Rows
pub mod Walks
pub mod Rounds
pub mod Places
pub mod Values
