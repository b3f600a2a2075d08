pub mod FileLaws
pub mod OpenLaws
pub mod FoundLaws
