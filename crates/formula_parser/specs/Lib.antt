pub mod Settings
pub mod Placed
pub mod Built
pub mod Given
pub mod Leaves
pub mod Answers
pub mod TextTrees
