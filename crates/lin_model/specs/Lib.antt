pub mod Lists
pub mod ModelFields
pub mod Built
pub mod Inner
