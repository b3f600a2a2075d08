pub mod Chosen
pub mod FromStatementLaws
