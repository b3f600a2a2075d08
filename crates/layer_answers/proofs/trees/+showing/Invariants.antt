use Rattle.std.proofs.Common.{◌+◌, ◌*◌}
use Rattle.formula_ast.specs.Size.{all_count, node_count}
use Rattle.formula_ast.specs.Tree.{trees}
use Rattle.layer_answers.proofs.trees.+showing.Given as goal

abbrev pub decreases-show_all : goal.decreases-show_all
decreases-show_all l = 2 * all_count (trees l.exprs.now) + 1

abbrev pub decreases-show_tree : goal.decreases-show_tree
decreases-show_tree l = 2 * node_count l.expr.now
