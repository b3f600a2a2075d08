use Rattle.std.proofs.Common.{◌-◌, ◌<◌, ◌≤◌, length, ℕ}
use Rattle.tableau.specs.Entries.{pair_at}
use Rattle.tableau.proofs.entries.first_not_before.Given as goal

abbrev pub invariant-loop-low : goal.invariant-loop-low
invariant-loop-low l = record {
  low : l.low ≤ l.high;
  high : l.high ≤ length l.kept;
  before : (i : ℕ) → i < l.low → (pair_at l.kept i).0 < l.col;
  after : (i : ℕ) → l.high ≤ i → i < length l.kept → l.col ≤ (pair_at l.kept i).0;
}

abbrev pub decreases-loop-low : goal.decreases-loop-low
decreases-loop-low l = l.high - l.low
