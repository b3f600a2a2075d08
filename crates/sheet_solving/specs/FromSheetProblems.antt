-- What the crates above name of sheet_problems, handed on.
pub use Rattle.sheet_linear_model.specs.FromSheetProblems.{ModelIsTheSheet}
