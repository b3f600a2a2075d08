pub mod Slots
pub mod Roots
pub mod Orders
pub mod Weights
pub mod Solved
pub mod Made
pub mod Preorders
pub mod Trees
