-- Walks through rows, from a cell to the cells in the list of its row, and so on.
use Rattle.std.specs.Prelude.{◌≡◌, ◌≢◌, Bool, true, false, List, Option, Some, None, Contains, MatchOption, ◌⊎◌}
use Rattle.std.specs.declared.cmp.Ordering.TheVariants.{Greater}
use Rattle.cell_refs.specs.declared.cell.Cell.{Cell}
use Rattle.cell_refs.specs.Cells.{cell_cmp}
use Rattle.recalc.specs.declared.rows.Row.{Row}
use Rattle.recalc.specs.Rows.{row_at}

-- a cell itself, the cells in the list of its row, and so on
pub data Reached (rows : List (Cell × Row)) (from : Cell) : Cell → Type 0 where
  itself : Reached rows from from
  further : (b c : Cell) (row : Row) → Reached rows from b → row_at rows b ≡ Some row → Contains row.looks.items c → Reached rows from c

abbrev pub wide_in : Option Row → Bool
wide_in None = false
wide_in (Some row) = row.is_wide

-- c is the least wide cell among those
pub record IsLeast (rows : List (Cell × Row)) (from c : Cell) : Type 0 where
  pub reached : Reached rows from c
  pub wide : wide_in (row_at rows c) ≡ true
  pub least : (b : Cell) → Reached rows from b → wide_in (row_at rows b) ≡ true → cell_cmp c b ≢ Greater

-- none of them is wide
abbrev pub HasNone : List (Cell × Row) → Cell → Type 0
HasNone rows from = (b : Cell) → Reached rows from b → wide_in (row_at rows b) ≡ false

abbrev pub IsAnswer : List (Cell × Row) → Cell → Option Cell → Type 0
IsAnswer rows from least = MatchOption least (HasNone rows from) (IsLeast rows from)

-- the least wide cell so far, among the cells whose rows don't wait any more
abbrev pub IsSoFar : List (Cell × Row) → Cell → List (Cell × Row) → Option Cell → Type 0
IsSoFar rows from waiting None = (b : Cell) → row_at waiting b ≡ None → wide_in (row_at rows b) ≡ false
IsSoFar rows from waiting (Some c) =
    Reached rows from c × (wide_in (row_at rows c) ≡ true) × ((b : Cell) → row_at waiting b ≡ None → wide_in (row_at rows b) ≡ true → cell_cmp c b ≢ Greater)

-- a walk on its way: each cell on the stack is reached, and what is looked at from a row that doesn't wait any more is on the
-- stack, or has no row that waits
pub record IsOnItsWay (rows : List (Cell × Row)) (from : Cell) (waiting : List (Cell × Row)) (stack : List Cell) (least : Option Cell) : Type 0 where
  pub kept : (b : Cell) (row : Row) → row_at waiting b ≡ Some row → row_at rows b ≡ Some row
  pub stacked : (b : Cell) → Contains stack b → Reached rows from b
  pub start : Contains stack from ⊎ (row_at waiting from ≡ None)
  pub closed : (b c : Cell) (row : Row) → row_at rows b ≡ Some row → row_at waiting b ≡ None → Contains row.looks.items c → Contains stack c ⊎ (row_at waiting c ≡ None)
  pub so_far : IsSoFar rows from waiting least

-- the lesser of two cells, where the second one counts only if it is wide
abbrev pub IsLesser : Option Cell → Cell → Bool → Option Cell → Type 0
IsLesser least cell false answer = answer ≡ least
IsLesser None cell true answer = answer ≡ Some cell
IsLesser (Some c) cell true answer = (d : Cell) × (answer ≡ Some d) × ((d ≡ c) ⊎ (d ≡ cell)) × (cell_cmp d c ≢ Greater) × (cell_cmp d cell ≢ Greater)
