-- The areas of the parts so far are found. A list of parts counts as one more than all their parts.
use Rattle.std.proofs.Common.{◌≡◌, ◌+◌, ◌*◌, ◌++◌, take}
use Rattle.formula_ast.specs.Measures.{all_references_of}
use Rattle.formula_ast.specs.Size.{node_count, all_count}
use Rattle.formula_ast.specs.Tree.{trees}
use Rattle.formula_ast.proofs.expr.+referring.Given as goal

abbrev pub invariant-add_all_references-loop-expr : goal.invariant-add_all_references-loop-expr
invariant-add_all_references-loop-expr l =
    l.found.items ≡ l.fn.found.items ++ all_references_of (trees (take l.expr-index l.exprs))

abbrev pub decreases-Expr::add_references : goal.decreases-Expr::add_references
decreases-Expr::add_references l = 2 * node_count l.self.now

abbrev pub decreases-add_all_references : goal.decreases-add_all_references
decreases-add_all_references l = 2 * all_count (trees l.exprs.now) + 1
