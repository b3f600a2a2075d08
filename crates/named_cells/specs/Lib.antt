pub mod FromStatementLaws
