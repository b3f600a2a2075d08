use Rattle.std.proofs.Common.{◌≡◌, ◌++◌, drop}
use Rattle.affine_forms.specs.Forms.{negated_terms}
use Rattle.affine_forms.proofs.merging.opposite_terms.Given as goal

abbrev pub invariant-loop-j : goal.invariant-loop-j
invariant-loop-j l = negated_terms l.terms ≡ l.turned ++ negated_terms (drop l.j-index l.terms)
