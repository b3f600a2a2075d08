use Rattle.std.proofs.Common.{◌≡◌, ◌+◌, ◌<◌, ◌≤◌, ℕ, slice_get}
use Rattle.std.specs.Prelude.{◌||◌}
use Rattle.std.specs.Ordering.{eq_by_cmp}
use Rattle.column_strips.specs.declared.strip.Strip.{Strip}
use Rattle.column_strips.specs.Columns.{AllRising, room_at, strips_at}
use Rattle.column_strips.specs.Strips.{has_strip, strip_cmp}
use Rattle.column_strips.proofs.columns.add_area.Given as goal

abbrev pub invariant-loop-place : goal.invariant-loop-place
invariant-loop-place l = record {
  rising : AllRising l.columns;
  done : (i : ℕ) (s : Strip) → l.first ≤ i → i < l.place
      → has_strip (strips_at l.columns i) s ≡ (eq_by_cmp strip_cmp s l.strip || has_strip (strips_at l.fn.columns i) s);
  before : (i : ℕ) → i < l.first → slice_get l.columns i ≡ slice_get l.fn.columns i;
  behind : (i : ℕ) → l.place ≤ i → slice_get l.columns i ≡ slice_get l.fn.columns i;
  room : (i : ℕ) → room_at l.fn.columns i ≤ room_at l.columns i + 1;
}
