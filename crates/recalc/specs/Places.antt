-- A number for each cell, by sheet, row and column: 0 where there is none.
use Rattle.std.specs.Prelude.{ℕ, List, [], get_or}
use Rattle.cell_refs.specs.declared.cell.Cell.{Cell}

-- the number in a row and a column
abbrev pub in_rows : List (List ℕ) → ℕ → ℕ → ℕ
in_rows rows row col = get_or (get_or rows row []) col 0

-- the number of a cell
abbrev pub place_in : List (List (List ℕ)) → Cell → ℕ
place_in sheets q = in_rows (get_or sheets q.sheet.0 []) q.row q.col
