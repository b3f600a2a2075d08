use Rattle.std.proofs.Common.{◌≡◌, ◌+◌, ℕ}
use Rattle.dictionaries.specs.Run.{Leads, IsReached}
use Rattle.simplex.proofs.runs.resume.Given as goal

abbrev pub invariant-loop-dict : goal.invariant-loop-dict
invariant-loop-dict l = record {
  run : (k : ℕ) × Leads k l.initial.dict l.dict × (k + l.work.left ≡ l.initial.work.left);
  reached : IsReached l.of l.dict;
}

abbrev pub decreases-loop-dict : goal.decreases-loop-dict
decreases-loop-dict l = l.work.left
