-- No part counts for more than the list that it stands in.
use Rattle.std.proofs.Common.{arith}
use Rattle.formula_ast.proofs.Parts.{node_count-le}
use Rattle.formula_ast.proofs.expr.+copying.Goals as goal

pub copies-copy-requires : goal.copies-copy-requires
copies-copy-requires t c = (omega (arith, node_count-le c.args.exprs.now c.loop-expr.expr-index c.expr-item.result c.loop-expr-test.true c.expr-item.is), tt)
