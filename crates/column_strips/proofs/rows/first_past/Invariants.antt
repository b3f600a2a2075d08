use Rattle.std.proofs.Common.{◌≡◌, ◌+◌, ◌<◌, ◌≤◌, ℕ, slice_get}
use Rattle.std.specs.Prelude.{Some}
use Rattle.column_strips.proofs.rows.first_past.Given as goal

abbrev pub invariant-loop-first : goal.invariant-loop-first
invariant-loop-first l = record {
  within : l.first ≤ l.row + 1;
  past : (k v : ℕ) → l.first ≤ k → k ≤ l.row → slice_get l.rows k ≡ Some v → l.row < v;
}

abbrev pub decreases-loop-first : goal.decreases-loop-first
decreases-loop-first l = l.first
