-- Marked cells, in a list and a table.
use Rattle.std.specs.Prelude.{◌≡◌, ℕ, ◌+◌, ◌≤◌, Bool, Vec, length, vec_capacity}
use Rattle.std.specs.FinSet as set
use Rattle.std.specs.Global.{Global}
use Rattle.std.specs.HashSet.{HashSet, spare}
use Rattle.std.specs.List.{IsDistinct, list_any}
use Rattle.std.specs.Ordering.{eq_by_cmp}
use Rattle.std.specs.declared.hash.FoldHasher.{FoldHasher}
use Rattle.std.specs.declared.hash.BuildHasherDefault.{BuildHasherDefault}
use Rattle.cell_refs.specs.Cells.{cell_cmp}
use Rattle.cell_refs.specs.declared.cell.Cell.{Cell}
use Rattle.cell_refs.specs.declared.limits.TheConstants.{ROWS, TEXTS}

-- the same cells, each once, with room for one more than can have a text
pub record AreMarks (cells : Vec Cell Global) (seen : HashSet Cell (BuildHasherDefault FoldHasher)) : Type 0 where
  pub few : length cells.items ≤ TEXTS + 1
  pub room : TEXTS + 1 ≤ vec_capacity cells
  pub spare_places : TEXTS + 1 ≤ length cells.items + spare seen
  pub as_many : length seen.keys ≡ length cells.items
  pub same : (c : Cell) → list_any (eq_by_cmp cell_cmp c) seen.keys ≡ list_any (eq_by_cmp cell_cmp c) cells.items
  pub distinct : IsDistinct (eq_by_cmp cell_cmp) cells.items
  pub once : set.len (set.from_list {R = cell_cmp} cells.items) ≡ length cells.items

-- space for the rows of a column, and for a flag of each cell
pub record HasSpace (rows : Vec ℕ Global) (done : Vec Bool Global) : Type 0 where
  pub for_rows : ROWS ≤ vec_capacity rows
  pub for_flags : TEXTS + 1 ≤ vec_capacity done
