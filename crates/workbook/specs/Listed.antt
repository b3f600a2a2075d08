-- The cells with a text lie on the sheets of their workbook.
use Rattle.std.specs.Prelude.{◌≡◌, ℕ, List, Some}
use Rattle.std.specs.FinMap.{get}
use Rattle.cell_refs.specs.declared.cell.Cell.{Cell}
use Rattle.cell_refs.specs.Listed.{IsListed}
use Rattle.workbook.specs.State.{State}

-- each cell with a text lies on one of the sheets
abbrev pub TextsAreListed : State → Type 0
TextsAreListed state = (cell : Cell) (text : List ℕ) → get state.contents cell ≡ Some text → IsListed state.sheets cell
