-- A `Row` as a list of numbers.
use Rattle.std.specs.Prelude.{◌≤◌, ◌<◌, ◌^◌, List, vec_capacity}
use Rattle.fractions.specs.Rational.{ℚ}
use Rattle.tableau.specs.Entries.{IsSparse, spread}
use Rattle.tableau.specs.declared.row.Row.TheInside.{Inside}

-- the constant and the entries
abbrev pub row_of : Inside → List ℚ
row_of r = spread r.rest r.columns r.kept.items

-- what is kept are entries other than 0 at columns of the row, with room for one in each column
pub record IsKept (r : Inside) : Type 0 where
  pub sparse : IsSparse r.columns r.kept.items
  pub few : r.columns < 2 ^ 16
  pub room : r.columns ≤ vec_capacity r.kept
