-- The problem that the names of a sheet state: its sides and its objective are what recalculation makes of their places under each
-- assignment of numbers to the decision cells, over fractions of any size.
use Rattle.std.specs.Prelude.{ℕ, not, if◌then◌else◌, List, [], map, filter, length, option_map}
use Rattle.std.specs.List.{range_with_len}
use Rattle.optimality.specs.Problem.{Row, Problem}
use Rattle.linear_models.specs.Statement.{is_in}
use Rattle.form_extraction.specs.FromRecalculation.{Book}
use Rattle.workbook.specs.Kinds.{book_of}
use Rattle.workbook.specs.State.{State}
use Rattle.cell_refs.specs.declared.place.Place.TheVariants as place
use Rattle.solver_names.specs.Sides.{sides_in}
use Rattle.solver_names.specs.Statement.{RowOf, Statement}
use Rattle.sheet_problems.specs.Places.{Sides, worth_at}

-- both sides of an expanded row in its relation
abbrev pub row_of : Book → Sides → Statement → RowOf → Row
row_of book sides s r = record {
  left = worth_at book sides s.decisions (place.Cell r.left);
  relation = r.relation;
  right = worth_at book sides s.decisions r.right;
}

-- where decisions without a lower bound of their own aren't negative, these
abbrev pub not_negative_in : Statement → List ℕ
not_negative_in s = if s.not_negative then filter (λ j. not (is_in j s.explicit)) (range_with_len 0 (length s.decisions)) else []

-- what is stated, on a workbook with these sides: the cells of each constraint that asks for different ones hold the numbers from 1 on, each once
abbrev pub problem_of : Book → Sides → Statement → Problem
problem_of book sides s = record {
  decisions = length s.decisions;
  rows = map (row_of book sides s) s.rows;
  whole = s.whole;
  binary = s.binary;
  not_negative = not_negative_in s;
  numbered = s.different;
  different = [];
  objective = option_map (λ c. worth_at book sides s.decisions (place.Cell c)) s.objective;
  goal = s.goal;
}

-- the problem of a sheet's statement
abbrev pub problem_in : State → Statement → Problem
problem_in book s = problem_of (book_of book) (sides_in book s.sheet) s
