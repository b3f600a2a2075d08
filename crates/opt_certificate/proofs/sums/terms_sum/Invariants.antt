use Rattle.std.proofs.Common.{◌≡◌, length, drop}
use Rattle.calculations.specs.Calculation.{narrow}
use Rattle.affine_forms.specs.Assigned.{ReachTo, assigned}
use Rattle.affine_forms.specs.Lists.{summed}
use Rattle.opt_certificate.proofs.sums.terms_sum.Given as goal

-- the rest of the terms added to the total so far
abbrev pub invariant-loop-decision : goal.invariant-loop-decision
invariant-loop-decision l = record {
  reach : ReachTo (drop l.decision-index l.terms) (length l.point);
  narrow : narrow (summed (assigned l.point) l.fn.start l.terms) ≡ narrow (summed (assigned l.point) l.total (drop l.decision-index l.terms));
}
