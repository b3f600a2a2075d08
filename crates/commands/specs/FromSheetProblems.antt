-- What the crates above name of sheet_problems, handed on.
pub use Rattle.form_needs.specs.FromSheetProblems.{ModelIsTheSheet, not_negative_in, number_in, problem_in, put_over, row_of, tree_of, value_at}
pub use Rattle.form_needs.specs.FromSheetProblems.{worth_at}
