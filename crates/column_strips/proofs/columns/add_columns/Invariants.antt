use Rattle.std.proofs.Common.{◌≡◌, ◌+◌, ◌-◌, ◌≤◌, ℕ, length}
use Rattle.column_strips.specs.Columns.{room_at, strips_at}
use Rattle.column_strips.proofs.columns.add_columns.Given as goal

abbrev pub invariant-column : goal.invariant-column
invariant-column l = record {
  same : (i : ℕ) → strips_at l.columns.items i ≡ strips_at l.fn.columns.items i;
  kept : (i : ℕ) → room_at l.fn.columns.items i ≤ room_at l.columns.items i;
}

abbrev pub decreases-column : goal.decreases-column
decreases-column l = l.last + 1 - length l.columns.items
