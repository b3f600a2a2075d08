-- What the names of a sheet state: which cells are to be decided, what is wanted, and under which rows.
use Rattle.std.specs.Prelude.{ℕ, Bool, List, Option}
use Rattle.optimality.specs.Problem.{Relation, Goal}
use Rattle.cell_refs.specs.declared.cell.Cell.{Cell}
use Rattle.cell_refs.specs.declared.place.Place.{Place}

-- an expanded row: its number from 1 on, and its two sides in a relation
pub record RowOf : Type 0 where
  pub number : ℕ
  pub left : Cell
  pub relation : Relation
  pub right : Place

-- the cells to be decided; the lists have the numbers, from 0 on, of those that are to be whole, those that are to be 0 or 1, and
-- those with a lower bound of their own; for each constraint of different cells a list has the numbers of its cells, in their order
pub record Statement : Type 0 where
  pub sheet : ℕ
  pub decisions : List Cell
  pub objective : Option Cell
  pub goal : Goal
  pub rows : List RowOf
  pub whole : List ℕ
  pub binary : List ℕ
  pub explicit : List ℕ
  pub different : List (List ℕ)
  pub not_negative : Bool
