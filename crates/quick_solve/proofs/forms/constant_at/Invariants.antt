use Rattle.std.proofs.Common.{◌≡◌, ◌+◌, length, drop}
use Rattle.affine_forms.specs.Assigned.{ReachTo, assigned}
use Rattle.parameter_laws.specs.Putting.{parameter_terms}
use Rattle.quick_solve.proofs.TermByTerm.{constant_of}
use Rattle.quick_solve.proofs.forms.constant_at.Given as goal

-- the terms that are left, from the constant so far
abbrev pub invariant-loop-term : goal.invariant-loop-term
invariant-loop-term l = record {
  reach : ReachTo (drop l.term-index l.terms) (l.decisions + length l.values);
  narrow : constant_of (assigned l.values) l.fn.base (parameter_terms l.decisions l.terms)
      ≡ constant_of (assigned l.values) l.constant (parameter_terms l.decisions (drop l.term-index l.terms));
}
