pub mod Maps
pub mod Lowest
pub mod Gathered
pub mod Unread
pub mod Nodes
pub mod Placing
pub mod Saying
