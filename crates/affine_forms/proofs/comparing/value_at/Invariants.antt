use Rattle.std.proofs.Common.{◌≡◌, length, drop}
use Rattle.calculations.specs.Calculation.{narrow}
use Rattle.affine_forms.specs.Assigned.{ReachTo, assigned}
use Rattle.affine_forms.specs.Lists.{summed}
use Rattle.affine_forms.proofs.comparing.value_at.Given as goal

abbrev pub invariant-loop-j : goal.invariant-loop-j
invariant-loop-j l = record {
  reach : ReachTo (drop l.j-index l.terms) (length l.at);
  narrow : narrow (summed (assigned l.at) l.fn.base l.terms) ≡ narrow (summed (assigned l.at) l.total (drop l.j-index l.terms));
}
