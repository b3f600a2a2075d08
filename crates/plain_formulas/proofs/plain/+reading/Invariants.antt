-- All parts so far are plain. A list of parts counts as one more than all their parts.
use Rattle.std.proofs.Common.{◌≡◌, ◌+◌, ◌*◌, take, true}
use Rattle.formula_ast.specs.Size.{node_count, all_count}
use Rattle.formula_ast.specs.Tree.{trees}
use Rattle.plain_formulas.specs.Plain.{are_plain}
use Rattle.plain_formulas.proofs.plain.+reading.Given as goal

abbrev pub invariant-are_plain-loop-expr : goal.invariant-are_plain-loop-expr
invariant-are_plain-loop-expr l = are_plain (trees (take l.expr-index l.exprs)) ≡ true

abbrev pub decreases-is_plain : goal.decreases-is_plain
decreases-is_plain l = 2 * node_count l.tree.now

abbrev pub decreases-are_plain : goal.decreases-are_plain
decreases-are_plain l = 2 * all_count (trees l.exprs.now) + 1
