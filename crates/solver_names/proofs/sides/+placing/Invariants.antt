-- The parts so far are placed. A list of parts counts as one more than all their parts.
use Rattle.std.proofs.Common.{◌≡◌, ◌+◌, ◌*◌, map, take}
use Rattle.formula_ast.specs.Size.{node_count, all_count}
use Rattle.formula_ast.specs.Tree.{trees}
use Rattle.solver_names.specs.Sides.{placed}
use Rattle.solver_names.proofs.sides.+placing.Given as goal

abbrev pub invariant-all_placed-loop-expr : goal.invariant-all_placed-loop-expr
invariant-all_placed-loop-expr l = l.all.items ≡ map placed (take l.expr-index l.exprs)

abbrev pub decreases-one_byte_before : goal.decreases-one_byte_before
decreases-one_byte_before l = 2 * node_count l.expr.now

abbrev pub decreases-all_placed : goal.decreases-all_placed
decreases-all_placed l = 2 * all_count (trees l.exprs.now) + 1
