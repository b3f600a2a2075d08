pub mod Counted
pub mod Kinds
pub mod Matrices
pub mod Places
pub mod Truths
pub mod Undecided
pub mod Agreed
