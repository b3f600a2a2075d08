pub mod Problem
pub mod Kinds
pub mod Groups
pub mod Optimal
pub mod Laws
pub mod EachOnce
pub mod Examples
