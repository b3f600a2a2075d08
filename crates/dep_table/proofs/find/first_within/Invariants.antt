use Rattle.std.proofs.Common.{length, ◌-◌, ◌≡◌, ◌<◌, ◌≤◌, false, slice_get, ℕ}
use Rattle.dep_table.specs.Edges.{reaches}
use Rattle.dep_table.proofs.find.first_within.Given as goal

abbrev pub invariant-loop-place : goal.invariant-loop-place
invariant-loop-place l = record {
  from : l.from ≤ l.place;
  past : (k : ℕ) → l.from ≤ k → k < l.place → reaches l.area (slice_get l.formulas k) ≡ false;
}

abbrev pub decreases-loop-place : goal.decreases-loop-place
decreases-loop-place l = length l.formulas - l.place
