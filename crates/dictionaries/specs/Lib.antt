pub mod Dictionary
pub mod Reading
pub mod Narrow
pub mod Bland
pub mod Count
pub mod Run
