-- Right sides of rows over a small sheet, that of one row moved. What is expected was worked out by hand: D4 is 4, the right side 3 is
-- A2+D4, and the right side 2 refers to a circular cell.
use Rattle.std.specs.Prelude.{◌≡◌, ℕ, true, List, [], ◌∷◌, Option, Some, None}
use Rattle.std.specs.List.{AllByRecursion}
use Rattle.fractions.specs.Rational.{ℚ, neg_ℚ}
use Rattle.optimality.specs.Problem.{Assignment, at_most, greatest}
use Rattle.cell_refs.specs.declared.place.Place.{Place}
use Rattle.cell_refs.specs.declared.place.Place.TheVariants as place
use Rattle.solver_names.specs.Statement.{RowOf, Statement}
use Rattle.sheet_problems.specs.Examples.{cell, decisions, sheet, sides, whole}
use Rattle.sheet_prices.specs.Raised.{row_raised}

-- the cells to be decided are A2 and B2; which rows there are doesn't matter here
abbrev pub stated : Statement
stated = record { sheet = 0; decisions = decisions; objective = Some (cell 2 2); goal = greatest; rows = []; whole = []; binary = []; explicit = []; different = []; not_negative = true }

-- C4 at most that place, the first row
abbrev pub first_row : Place → RowOf
first_row right = record { number = 1; left = cell 3 2; relation = at_most; right = right }

pub record Example : Type 0 where
  pub moved : ℕ
  pub by : ℚ
  pub right : Place
  pub numbers : Assignment
  pub worth : Option ℚ

abbrev pub example : ℕ → ℚ → Place → Assignment → Option ℚ → Example
example moved by right numbers worth = record { moved = moved; by = by; right = right; numbers = numbers; worth = worth }

abbrev pub Holds : Example → Type 0
Holds e = (row_raised e.moved e.by sheet sides stated (first_row e.right)).right e.numbers ≡ e.worth

abbrev pub worths : List Example
worths =
    example 1 (whole 2) (place.Cell (cell 3 3)) (whole 4 ∷ whole 7 ∷ []) (Some (whole 6)) ∷
    example 2 (whole 2) (place.Cell (cell 3 3)) (whole 4 ∷ whole 7 ∷ []) (Some (whole 4)) ∷
    example 1 (neg_ℚ (whole 1)) (place.Side 3) (whole 4 ∷ whole 0 ∷ []) (Some (whole 7)) ∷
    example 1 (whole 2) (place.Side 2) (whole 4 ∷ whole 0 ∷ []) None ∷
    []

abbrev pub RaisedRightsHold : Type 0
RaisedRightsHold = AllByRecursion Holds worths
