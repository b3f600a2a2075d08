-- Rectangles of values while decisions are open, row by row (OpenDocument 1.2 part 2, sections 3.3 and 4.9).
use Rattle.std.specs.Prelude.{◌≡◌, ◌<◌, ℕ, ◌*◌, List, length}
use Rattle.form_values.specs.declared.abs.Abs.{Abs}

-- so many rows and columns, and the values row by row
pub record Raster : Type 0 where
  pub rows : ℕ
  pub columns : ℕ
  pub items : List Abs

-- at least one row and one column, and a value in each place
pub record IsFull (r : Raster) : Type 0 where
  pub some_rows : 0 < r.rows
  pub some_columns : 0 < r.columns
  pub size : length r.items ≡ r.rows * r.columns
