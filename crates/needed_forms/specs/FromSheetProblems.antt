-- What the crates above name of sheet_problems, handed on.
pub use Rattle.form_needs.specs.FromSheetProblems.{Sides, form_at, tree_of}
