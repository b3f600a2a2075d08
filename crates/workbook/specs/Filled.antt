-- Texts of cells.
use Rattle.std.specs.Prelude.{◌≢◌, [], Some}
use Rattle.std.specs.FinMap.{get}
use Rattle.cell_refs.specs.declared.cell.Cell.{Cell}
use Rattle.workbook.specs.State.{State}

-- no cell has an empty text
abbrev pub TextsAreSome : State → Type 0
TextsAreSome state = (cell : Cell) → get state.contents cell ≢ Some []
