-- The parts of the arguments so far. An argument and an operand count as one more than their tree, and a list of arguments as two more than all its trees.
use Rattle.std.proofs.Common.{◌≡◌, ◌+◌, ◌*◌, take}
use Rattle.formula_ast.specs.Size.{node_count, all_count}
use Rattle.formula_ast.specs.Tree.{trees}
use Rattle.form_extraction.specs.Formulas.{parts_of}
use Rattle.extract.specs.Unread.{table_place, unread_at}
use Rattle.extract.proofs.formula.+extracting.Given as goal

abbrev pub invariant-arguments-loop-index : goal.invariant-arguments-loop-index
invariant-arguments-loop-index g l = l.parts.items ≡ unread_at (table_place l.function) (parts_of (g.C.FormsOfCells.forms l.forms) (trees (take l.index l.exprs)))

abbrev pub decreases-form_part : goal.decreases-form_part
decreases-form_part g l = 3 * node_count l.expr.now

abbrev pub decreases-argument : goal.decreases-argument
decreases-argument g l = 3 * node_count l.expr.now + 1

abbrev pub decreases-arguments : goal.decreases-arguments
decreases-arguments g l = 3 * all_count (trees l.exprs.now) + 2

abbrev pub decreases-with_plus : goal.decreases-with_plus
decreases-with_plus g l = 3 * node_count l.of.now + 1

abbrev pub decreases-with_minus : goal.decreases-with_minus
decreases-with_minus g l = 3 * node_count l.of.now + 1

abbrev pub decreases-in_hundredths : goal.decreases-in_hundredths
decreases-in_hundredths g l = 3 * node_count l.of.now + 1

abbrev pub decreases-with_infix : goal.decreases-with_infix
decreases-with_infix g l = 3 * (node_count l.left.now + node_count l.right.now) + 1
