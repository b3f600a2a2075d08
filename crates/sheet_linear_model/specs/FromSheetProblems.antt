-- What the crates above name of sheet_problems, handed on.
pub use Rattle.kept_forms.specs.FromSheetProblems.{ModelIsTheSheet}
