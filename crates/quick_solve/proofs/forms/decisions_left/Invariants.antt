use Rattle.std.proofs.Common.{◌≡◌, ◌++◌, drop}
use Rattle.parameter_laws.specs.Putting.{decision_terms}
use Rattle.quick_solve.proofs.forms.decisions_left.Given as goal

-- the terms so far, and those that are left
abbrev pub invariant-loop-term : goal.invariant-loop-term
invariant-loop-term l = record {
  constant : l.left.constant ≡ l.fn.constant;
  terms : decision_terms l.decisions l.terms ≡ l.left.terms ++ decision_terms l.decisions (drop l.term-index l.terms);
}
