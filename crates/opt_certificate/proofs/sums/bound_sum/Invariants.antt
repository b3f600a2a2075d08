use Rattle.std.proofs.Common.{◌≡◌, drop}
use Rattle.calculations.specs.Calculation.{narrow}
use Rattle.opt_certificate.specs.Sums.{bound_sum, paired, added_up}
use Rattle.opt_certificate.proofs.sums.bound_sum.Given as goal

-- the rest of the rows added to the total so far
abbrev pub invariant-loop-place : goal.invariant-loop-place
invariant-loop-place l =
    narrow (bound_sum l.multipliers l.rows) ≡ narrow (added_up l.total (paired (λ r. r.bound) (drop l.place l.multipliers) (drop l.place l.rows)))
