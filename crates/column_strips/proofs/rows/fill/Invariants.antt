use Rattle.std.proofs.Common.{◌≡◌, ◌<◌, ◌≤◌, ℕ, length, slice_get}
use Rattle.std.specs.Prelude.{Some, vec_capacity}
use Rattle.column_strips.proofs.rows.fill.Given as goal

abbrev pub invariant-loop-place : goal.invariant-loop-place
invariant-loop-place l = record {
  length : length l.rows.items ≡ length l.fn.rows.items;
  capacity : vec_capacity l.fn.rows ≤ vec_capacity l.rows;
  from : l.first ≤ l.place;
  before : (k : ℕ) → k < l.first → slice_get l.rows.items k ≡ slice_get l.fn.rows.items k;
  filled : (k : ℕ) → l.first ≤ k → k < l.place → slice_get l.rows.items k ≡ Some l.row;
  behind : (k : ℕ) → l.row < k → slice_get l.rows.items k ≡ slice_get l.fn.rows.items k;
}
