-- What the crates above name of statement_laws, handed on.
pub use Rattle.sheet_linear_model.specs.FromStatementLaws.{IsWhole}
