use Rattle.std.proofs.Common.{◌≡◌, drop}
use Rattle.affine_forms.specs.Forms.{same_terms}
use Rattle.affine_forms.proofs.comparing.are_same.Given as goal

abbrev pub invariant-loop-i : goal.invariant-loop-i
invariant-loop-i l = same_terms l.left l.right ≡ same_terms (drop l.i l.left) (drop l.i l.right)
