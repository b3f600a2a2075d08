-- The problem of a sheet's statement with the right side of one row greater by a number, as recalculation has it (Chvátal, Linear
-- Programming, chapter 5).
use Rattle.std.specs.Prelude.{ℕ, ◌==◌, if◌then◌else◌, map, option_map}
use Rattle.fractions.specs.Rational.{ℚ, ◌+ℚ◌}
use Rattle.optimality.specs.Problem.{Worth, Row, Problem}
use Rattle.recalculation.specs.Entries.{Book}
use Rattle.workbook.specs.Kinds.{book_of}
use Rattle.workbook.specs.State.{State}
use Rattle.solver_names.specs.Sides.{sides_in}
use Rattle.solver_names.specs.Statement.{RowOf, Statement}
use Rattle.sheet_problems.specs.Places.{Sides}
use Rattle.sheet_problems.specs.SheetProblem.{row_of, problem_in}

-- what is worth d more; none where there is no number
abbrev pub greater_by : ℚ → Worth → Worth
greater_by d w a = option_map (λ x. x +ℚ d) (w a)

-- the row with its right side greater by d
abbrev pub with_right : ℚ → Row → Row
with_right d row = record { left = row.left; relation = row.relation; right = greater_by d row.right }

-- an expanded row, with its right side greater by d where it has that number
abbrev pub row_raised : ℕ → ℚ → Book → Sides → Statement → RowOf → Row
row_raised number d book sides s r = if r.number == number then with_right d (row_of book sides s r) else row_of book sides s r

-- the problem of a sheet's statement, with the right side of the row of that number greater by d
abbrev pub problem_raised : State → Statement → ℕ → ℚ → Problem
problem_raised book s number d = record {
  decisions = (problem_in book s).decisions;
  rows = map (row_raised number d (book_of book) (sides_in book s.sheet) s) s.rows;
  whole = (problem_in book s).whole;
  binary = (problem_in book s).binary;
  not_negative = (problem_in book s).not_negative;
  numbered = (problem_in book s).numbered;
  different = (problem_in book s).different;
  objective = (problem_in book s).objective;
  goal = (problem_in book s).goal;
}
