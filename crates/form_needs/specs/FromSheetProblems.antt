-- What the crates above name of sheet_problems, handed on.
pub use Rattle.sheet_problems.specs.Forms.{HasForm, HasForms, HasSides, condition_of, conditions_of, form_at, number_form}
pub use Rattle.sheet_problems.specs.Laws.{ModelIsTheSheet}
pub use Rattle.sheet_problems.specs.Places.{Sides, number_in, put_over, tree_of, value_at, worth_at}
pub use Rattle.sheet_problems.specs.SheetProblem.{not_negative_in, problem_in, row_of}
