-- What the crates above name of sheet_problems, handed on.
pub use Rattle.form_needs.proofs.FromSheetProblems.{decision_is_its_number}
