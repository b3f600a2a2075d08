-- How a cell is printed with its sheet.
use Rattle.std.specs.Prelude.{ℕ, List, [], slice_get, unwrap_or}
use Rattle.cell_refs.specs.declared.cell.Cell.{Cell}
use Rattle.cell_refs.specs.Names.{cell_text}

-- a cell, with the name of its sheet
abbrev pub cell_with_sheet : List (List ℕ) → Cell → List ℕ
cell_with_sheet sheets c = cell_text (unwrap_or (slice_get sheets c.sheet.0) []) c.row c.col
