use Rattle.std.proofs.Common.{◌≡◌, ◌+◌, ◌-◌, ◌<◌, ◌≤◌, ℕ, length, slice_get}
use Rattle.std.specs.Prelude.{Some, vec_capacity}
use Rattle.column_strips.proofs.rows.add_behind.Given as goal

abbrev pub invariant-behind : goal.invariant-behind
invariant-behind l = record {
  capacity : vec_capacity l.fn.rows ≤ vec_capacity l.rows;
  most : length l.rows.items ≤ l.row + 1;
  least : length l.fn.rows.items ≤ length l.rows.items;
  before : (k : ℕ) → k < length l.fn.rows.items → slice_get l.rows.items k ≡ slice_get l.fn.rows.items k;
  filled : (k : ℕ) → length l.fn.rows.items ≤ k → k < length l.rows.items → slice_get l.rows.items k ≡ Some l.row;
}

abbrev pub decreases-behind : goal.decreases-behind
decreases-behind l = l.row + 1 - length l.rows.items
