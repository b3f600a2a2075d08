-- The trees so far, and those of the branches that are left.
use Rattle.std.proofs.Common.{◌≡◌}
use Rattle.std.specs.Prelude.{All}
use Rattle.formula_ast.specs.Sound.{IsSound}
use Rattle.formula_parser.specs.Built.{all_trees}
use Rattle.formula_parser.proofs.Branches.{behind}
use Rattle.formula_parser.proofs.call.all_exprs.Given as goal

abbrev pub invariant-loop-arg : goal.invariant-loop-arg
invariant-loop-arg l = record {
  goes : goal.iterator-loop-arg.can_next l.arg-iterator;
  ends : goal.iterator-loop-arg.is_finite l.arg-iterator;
  so_far : behind l.exprs.items l.arg-iterator.rest.items ≡ all_trees l.fn.args.items;
  sound : All IsSound l.exprs.items;
}
