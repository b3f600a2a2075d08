-- What the crates above name of sheet_linear_model, handed on.
pub use Rattle.sheet_linear_model.specs.Answers.{HasFault}
pub use Rattle.sheet_linear_model.specs.Inner.{IsKeptFor, IsStatement}
pub use Rattle.sheet_linear_model.specs.Prepared.{IsPrepared, IsRefutedAt, IsRight, Prepared, rows_of}
