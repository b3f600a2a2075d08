-- The copies so far are the parts so far. A list of parts counts as one more than all their parts.
use Rattle.std.proofs.Common.{◌≡◌, ◌+◌, ◌*◌, take}
use Rattle.formula_ast.specs.Size.{node_count, all_count}
use Rattle.formula_ast.specs.Tree.{trees}
use Rattle.formula_ast.proofs.expr.+copying.Given as goal

abbrev pub invariant-copies-loop-expr : goal.invariant-copies-loop-expr
invariant-copies-loop-expr l = l.copies.items ≡ take l.expr-index l.exprs

abbrev pub decreases-Expr::copy : goal.decreases-Expr::copy
decreases-Expr::copy l = 2 * node_count l.self.now

abbrev pub decreases-copies : goal.decreases-copies
decreases-copies l = 2 * all_count (trees l.exprs.now) + 1
