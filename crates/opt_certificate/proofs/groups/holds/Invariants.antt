use Rattle.std.proofs.Common.{◌≡◌, ◌<◌, ℕ}
use Rattle.optimality.specs.Groups.{held_at}
use Rattle.opt_certificate.proofs.groups.holds.Given as goal

abbrev pub invariant-loop-decision : goal.invariant-loop-decision
invariant-loop-decision l = (k : ℕ) → k < l.decision-index → held_at l.point l.list k ≡ l.number → ⊥
