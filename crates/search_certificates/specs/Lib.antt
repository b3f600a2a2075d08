pub mod Nodes
pub mod Leaves
pub mod Trees
pub mod Laws
pub mod Searched
pub mod Weights
