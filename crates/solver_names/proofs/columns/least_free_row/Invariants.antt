use Rattle.std.proofs.Common.{◌≡◌, ◌≤◌, ◌<◌, ◌+◌, ℕ, true, false}
use Rattle.cell_refs.specs.Areas.{bottom}
use Rattle.solver_names.specs.Counts.{cell_of, is_covered}
use Rattle.solver_names.proofs.columns.least_free_row.Given as goal

-- the row is the least of the columns so far
abbrev pub invariant-loop-col : goal.invariant-loop-col
invariant-loop-col l = record {
  from : l.other.top ≤ l.least;
  to : l.least ≤ bottom l.other + 1;
  had : (row col : ℕ) → l.other.top ≤ row → row < l.least → l.other.left ≤ col → col < l.col → is_covered l.areas (cell_of l.other.sheet.0 col row) ≡ true;
  lacks : l.least ≤ bottom l.other → (col : ℕ) × (l.other.left ≤ col) × (col < l.col) × (is_covered l.areas (cell_of l.other.sheet.0 col l.least) ≡ false);
}
