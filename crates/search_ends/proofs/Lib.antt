pub mod Floors
pub mod Lists
pub mod Pairs
pub mod Beside
pub mod Comes
