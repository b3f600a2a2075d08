-- Cells on the sheets of a workbook, which are told by their names.
use Rattle.std.specs.Prelude.{◌<◌, ℕ, List, length}
use Rattle.cell_refs.specs.declared.cell.Cell.{Cell}
use Rattle.cell_refs.specs.declared.limits.TheConstants.{COLUMNS, ROWS}

-- the cell lies on one of the sheets
pub record IsListed (sheets : List (List ℕ)) (c : Cell) : Type 0 where
  pub sheet : c.sheet.0 < length sheets
  pub row : c.row < ROWS
  pub column : c.col < COLUMNS
