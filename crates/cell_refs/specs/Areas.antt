-- Rectangles of cells on one sheet, and their cells row by row.
use Rattle.std.specs.Prelude.{ℕ, Bool, ◌&&◌, ◌==◌, nat_le, ◌+◌, ◌-◌, ◌*◌, ◌/◌, ◌%◌, ◌<◌, List, map, min, max}
use Rattle.std.specs.List.{range_with_len}
use Rattle.cell_refs.specs.declared.cell.Cell.{Cell}
use Rattle.cell_refs.specs.declared.cell.SheetId.{SheetId}
use Rattle.cell_refs.specs.declared.limits.TheConstants.{COLUMNS, ROWS}

-- its top left corner, and how many rows below it and columns to its right there are: its corners can't be out of order
pub record Area : Type 0 where
  pub sheet : SheetId
  pub top : ℕ
  pub left : ℕ
  pub further_rows : ℕ
  pub further_columns : ℕ

-- its last row
abbrev pub bottom : Area → ℕ
bottom a = a.top + a.further_rows

-- its last column
abbrev pub right : Area → ℕ
right a = a.left + a.further_columns

-- it lies on a sheet; so does each area of a program, by its type
pub record IsOnSheet (a : Area) : Type 0 where
  pub last_row : bottom a < ROWS
  pub last_column : right a < COLUMNS

-- how many rows it has
abbrev pub area_height : Area → ℕ
area_height a = a.further_rows + 1

-- how many columns it has
abbrev pub area_width : Area → ℕ
area_width a = a.further_columns + 1

-- how many cells it has
abbrev pub area_len : Area → ℕ
area_len a = area_height a * area_width a

-- the cell at a place, counted row by row
abbrev pub cell_at : Area → ℕ → Cell
cell_at a place = record { sheet = a.sheet; row = a.top + place / area_width a; col = a.left + place % area_width a }

-- all its cells
abbrev pub cells_of : Area → List Cell
cells_of a = map (cell_at a) (range_with_len 0 (area_len a))

-- whether the cell is one of the area's
abbrev pub within : Area → Cell → Bool
within a c = (a.sheet.0 == c.sheet.0) && (nat_le a.top c.row && (nat_le c.row (bottom a) && (nat_le a.left c.col && nat_le c.col (right a))))

-- the least rectangle, on the first cell's sheet, that has the rows and columns of both cells
abbrev pub between : Cell → Cell → Area
between a b =
    record { sheet = a.sheet; top = min a.row b.row; left = min a.col b.col; further_rows = max a.row b.row - min a.row b.row; further_columns = max a.col b.col - min a.col b.col }
