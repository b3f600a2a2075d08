-- The trees so far, and those that are left.
use Rattle.std.proofs.Common.{◌≡◌, ◌++◌}
use Rattle.formula_parser.proofs.array.concatenation.Given as goal

abbrev pub invariant-loop-other : goal.invariant-loop-other
invariant-loop-other l = record {
  goes : goal.iterator-loop-other.can_next l.other-iterator;
  ends : goal.iterator-loop-other.is_finite l.other-iterator;
  so_far : l.exprs.items ++ l.other-iterator.rest.items ≡ l.fn.first.items ++ l.fn.others.items;
}
