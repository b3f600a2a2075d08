-- The parts, one by one.
use Rattle.std.proofs.Common.{◌∙◌, arith, sym}
use Rattle.formula_ast.proofs.Parts.{node_count-le}
use Rattle.plain_formulas.proofs.Parts.{more_plain, not_plain}
use Rattle.plain_formulas.proofs.plain.+reading.Goals as goal

pub are_plain-is_plain-requires : goal.are_plain-is_plain-requires
are_plain-is_plain-requires t c = (omega (arith, node_count-le c.args.exprs.now c.loop-expr.expr-index c.expr-item.result c.loop-expr-test.true c.expr-item.is), tt)

pub are_plain-returns-then-not-is_plain : goal.are_plain-returns-then-not-is_plain
are_plain-returns-then-not-is_plain t c =
    not_plain c.args.exprs.now c.loop-expr.expr-index c.expr-item.result c.loop-expr-test.true c.expr-item.is (sym c.if-not-is_plain.true ∙ c.is_plain.ensures)

pub are_plain-loop-expr-preserved : goal.are_plain-loop-expr-preserved
are_plain-loop-expr-preserved t c =
    more_plain c.args.exprs.now c.loop-expr.expr-index c.expr-item.result c.loop-expr-test.true c.expr-item.is c.loop-expr.invariant (sym c.if-not-is_plain.false ∙ c.is_plain.ensures)
