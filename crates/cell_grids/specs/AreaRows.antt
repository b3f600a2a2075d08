-- The cells of areas row by row.
use Rattle.std.specs.Prelude.{ℕ, ◌+◌, List, map}
use Rattle.std.specs.List.{range_with_len}
use Rattle.cell_refs.specs.declared.cell.Cell.{Cell}
use Rattle.cell_refs.specs.Areas.{Area, area_width}

-- the cell of a row and of a column, counted from the first of the area
abbrev pub cell_of_row : Area → ℕ → ℕ → Cell
cell_of_row a row column = record { sheet = a.sheet; row = row; col = a.left + column }

-- the first cells of a row
abbrev pub first_of_row : Area → ℕ → ℕ → List Cell
first_of_row a row n = map (cell_of_row a row) (range_with_len 0 n)

-- all cells of a row
abbrev pub row_cells : Area → ℕ → List Cell
row_cells a row = first_of_row a row (area_width a)
