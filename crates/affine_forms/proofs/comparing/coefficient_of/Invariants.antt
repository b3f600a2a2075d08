use Rattle.std.proofs.Common.{◌≡◌, drop}
use Rattle.affine_forms.specs.Forms.{coefficient}
use Rattle.affine_forms.proofs.comparing.coefficient_of.Given as goal

abbrev pub invariant-loop-k : goal.invariant-loop-k
invariant-loop-k l = coefficient l.terms l.j ≡ coefficient (drop l.k-index l.terms) l.j
