use Rattle.std.proofs.Common.{ℕ, ◌-◌, ◌<◌, ◌≤◌, length}
use Rattle.tableau.specs.Entries.{pair_at}
use Rattle.tableau.proofs.numbers.end_before.Given as goal

abbrev pub invariant-loop-next : goal.invariant-loop-next
invariant-loop-next l = record {
  first : l.place ≤ l.next;
  within : l.next ≤ length l.kept;
  before : (i : ℕ) → i < l.next → l.place ≤ i → (pair_at l.kept i).0 < l.col;
}

abbrev pub decreases-loop-next : goal.decreases-loop-next
decreases-loop-next l = length l.kept - l.next
