-- Rounds over all formulas.
use Rattle.std.specs.Prelude.{◌≡◌, true, List, Option}
use Rattle.cell_refs.specs.declared.cell.Cell.{Cell}
use Rattle.sheet_model.specs.declared.value.Value.{Value}
use Rattle.recalculation.specs.Entries.{Book, entry, no_overriding}
use Rattle.recalculation.specs.Narrow.{known_over}
use Rattle.recalculation.specs.Walks.{is_formula}
use Rattle.recalc.specs.declared.rows.Row.{Row}
use Rattle.recalc.specs.Rows.{row_at, value_in}

-- the row of a cell has its value over those of the round before
abbrev pub HasValue : Book → (Cell → Option Value) → List (Cell × Row) → Cell → Type 0
HasValue book before rows a = value_in (row_at rows a) ≡ known_over book no_overriding before a

-- the rows of all formulas have
abbrev pub IsRound : Book → (Cell → Option Value) → List (Cell × Row) → Type 0
IsRound book before rows = (a : Cell) → is_formula (entry book a) ≡ true → HasValue book before rows a
