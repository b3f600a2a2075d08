use Rattle.std.proofs.Common.{◌≡◌, ◌++◌, drop, map}
use Rattle.linear_models.specs.Conditions.{constraints}
use Rattle.solver_names.specs.Answers.{row_of}
use Rattle.form_needs.specs.FromSheetProblems.{condition_of}
use Rattle.sheet_linear_model.specs.Lines.{row_numbers}
use Rattle.sheet_linear_model.proofs.lines.numbers_among.Given as goal

-- with those that are left the numbers are all
abbrev pub invariant-loop-place : goal.invariant-loop-place
invariant-loop-place l =
    l.numbers.items ++ row_numbers (map row_of (drop l.place l.rows)) (constraints (map (condition_of l.decisions) (map row_of (drop l.place l.rows))) (drop l.place l.sides))
    ≡ row_numbers (map row_of l.rows) (constraints (map (condition_of l.decisions) (map row_of l.rows)) l.sides)
