-- How far the rows of a sheet reach.
use Rattle.std.specs.Prelude.{◌≡◌, ◌≢◌, ℕ, suc, Bool, true, false, max, List, length, map, slice_index}
use Rattle.std.specs.List.{range_with_len}
use Rattle.cell_refs.specs.declared.cell.Cell.{Cell}
use Rattle.recalculation.specs.Entries.{Contents}
use Rattle.saved_sheets.specs.Saving.{columns_used, rows_used}

-- how many columns reach to the last text of each row, down to the last row with a text
abbrev pub used_widths : Contents → ℕ → List ℕ
used_widths contents sheet = map (columns_used contents sheet) (range_with_len 0 (rows_used contents sheet))

-- there is the cell's row, which reaches to the cell, and each other row as it was
pub record IsReached (cell : Cell) (old new : List ℕ) : Type 0 where
  pub here : slice_index new cell.row ≡ max (slice_index old cell.row) (suc cell.col)
  pub others : (row : ℕ) → row ≢ cell.row → slice_index new row ≡ slice_index old row
  pub rows : length new ≡ max (length old) (suc cell.row)

-- a cell of another sheet changes nothing
abbrev pub IsReachedOn : Bool → Cell → List ℕ → List ℕ → Type 0
IsReachedOn true cell old new = IsReached cell old new
IsReachedOn false cell old new = new ≡ old
