-- What the crates above name of sheet_linear_model, handed on.
pub use Rattle.sheet_linear_model.specs.Answers.{HasFault, HasNoModel}
pub use Rattle.sheet_linear_model.specs.Lines.{lines_of, numbers_of}
pub use Rattle.sheet_linear_model.specs.Prepared.{HasWideRow, HaveForms, IsPrepared, IsRefusedBy, Prepared, rows_of}
