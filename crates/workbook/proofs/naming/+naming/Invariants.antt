-- The parts so far have what their names stand for. A list of parts counts as one more than all their parts, and so does a box.
use Rattle.std.proofs.Common.{◌≡◌, ◌+◌, ◌*◌, take, Some}
use Rattle.formula_ast.specs.Size.{node_count, all_count}
use Rattle.formula_ast.specs.Sound.{AreSoundWithin}
use Rattle.formula_ast.specs.Tree.{trees}
use Rattle.workbook.specs.Kinds.{all_with_names, meant}
use Rattle.workbook.specs.Known.{names_in}
use Rattle.workbook.proofs.naming.+naming.Given as goal

abbrev pub invariant-all_named-loop-expr : goal.invariant-all_named-loop-expr
invariant-all_named-loop-expr l =
    (all_with_names (meant l.scope.sheets.now (names_in l.scope) l.scope.home.0) (trees (take l.expr-index l.exprs)) ≡ Some (trees l.found.items))
    × AreSoundWithin l.fn.span (trees l.found.items)

abbrev pub decreases-with_names : goal.decreases-with_names
decreases-with_names l = 3 * node_count l.expr.now

abbrev pub decreases-box_with_names : goal.decreases-box_with_names
decreases-box_with_names l = 3 * node_count l.expr.now + 1

abbrev pub decreases-all_named : goal.decreases-all_named
decreases-all_named l = 3 * all_count (trees l.exprs.now) + 1
