use Rattle.std.proofs.Common.{◌≡◌, drop}
use Rattle.affine_forms.specs.Forms.{same_terms}
use Rattle.form_ops.proofs.extremes.same_terms.Given as goal

-- the lists are one where their rests are
abbrev pub invariant-loop-index : goal.invariant-loop-index
invariant-loop-index l = same_terms l.left l.right ≡ same_terms (drop l.index l.left) (drop l.index l.right)
