pub mod Lists
pub mod Nodes
pub mod Lines
pub mod Drafts
pub mod Forests
pub mod Answers
pub mod Fits
