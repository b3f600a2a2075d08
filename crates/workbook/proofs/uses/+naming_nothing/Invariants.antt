-- The parts so far are plain. A list of parts counts as one more than all their parts.
use Rattle.std.proofs.Common.{◌≡◌, ◌+◌, ◌*◌, take, true}
use Rattle.formula_ast.specs.Size.{node_count, all_count}
use Rattle.formula_ast.specs.Tree.{trees}
use Rattle.workbook.specs.Uses.{name_nothing}
use Rattle.workbook.proofs.uses.+naming_nothing.Given as goal

abbrev pub invariant-name_nothing-loop-expr : goal.invariant-name_nothing-loop-expr
invariant-name_nothing-loop-expr l = name_nothing (trees (take l.expr-index l.exprs)) ≡ true

abbrev pub decreases-names_nothing : goal.decreases-names_nothing
decreases-names_nothing l = 2 * node_count l.expr.now

abbrev pub decreases-name_nothing : goal.decreases-name_nothing
decreases-name_nothing l = 2 * all_count (trees l.exprs.now) + 1
