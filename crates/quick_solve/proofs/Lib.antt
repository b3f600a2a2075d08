pub mod TermByTerm
pub mod Sides
pub mod At
