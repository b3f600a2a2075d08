-- None of the parts so far uses a name for which is looked. A list of parts counts as one more than all their parts.
use Rattle.std.proofs.Common.{◌≡◌, ◌+◌, ◌*◌, take, false}
use Rattle.std.specs.Prelude.{option_map}
use Rattle.formula_ast.specs.Size.{node_count, all_count}
use Rattle.formula_ast.specs.Tree.{trees}
use Rattle.workbook.specs.Uses.{any_use, is_wanted}
use Rattle.workbook.proofs.uses.+using_names.Given as goal

abbrev pub invariant-one_uses-loop-expr : goal.invariant-one_uses-loop-expr
invariant-one_uses-loop-expr l = any_use (is_wanted (option_map (λ w. w.now) l.wanted)) (trees (take l.expr-index l.exprs)) ≡ false

abbrev pub decreases-uses : goal.decreases-uses
decreases-uses l = 2 * node_count l.expr.now

abbrev pub decreases-one_uses : goal.decreases-one_uses
decreases-one_uses l = 2 * all_count (trees l.exprs.now) + 1
