pub mod ReferenceLaws
pub mod Stays
pub mod MarkLaws
pub mod Follows
pub mod TextLaws
pub mod Counted
