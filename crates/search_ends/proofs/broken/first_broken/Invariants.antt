use Rattle.std.proofs.Common.{ℕ, ◌<◌}
use Rattle.searches.specs.Trails.{IsBroken}
use Rattle.search_ends.proofs.broken.first_broken.Given as goal

abbrev pub invariant-loop-decision : goal.invariant-loop-decision
invariant-loop-decision l = (j : ℕ) → j < l.decision → IsBroken l.model l.point j → ⊥
