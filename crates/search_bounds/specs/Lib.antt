pub mod Choices
pub mod Enough
pub mod Trees
pub mod Laws
pub mod Examples
