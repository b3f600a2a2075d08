-- A part that is shown has fewer parts than the list in which it stands.
use Rattle.std.proofs.Common.{arith}
use Rattle.formula_ast.proofs.Parts.{node_count-le}
use Rattle.layer_answers.proofs.trees.+showing.Goals as goal

pub show_all-show_tree-requires : goal.show_all-show_tree-requires
show_all-show_tree-requires t c = (omega (arith, node_count-le c.args.exprs.now c.loop-expr.expr-index c.expr-item.result c.loop-expr-test.true c.expr-item.is), tt)
