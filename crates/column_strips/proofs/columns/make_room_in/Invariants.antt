use Rattle.std.proofs.Common.{◌≡◌, ◌<◌, ◌≤◌, ℕ, length}
use Rattle.column_strips.specs.Columns.{room_at, strips_at}
use Rattle.column_strips.proofs.columns.make_room_in.Given as goal

abbrev pub invariant-loop-place : goal.invariant-loop-place
invariant-loop-place l = record {
  enough : l.last < length l.columns.items;
  same : (i : ℕ) → strips_at l.columns.items i ≡ strips_at l.fn.columns.items i;
  kept : (i : ℕ) → room_at l.fn.columns.items i ≤ room_at l.columns.items i;
  room : (i : ℕ) → l.first ≤ i → i < l.place → l.count ≤ room_at l.columns.items i;
}
