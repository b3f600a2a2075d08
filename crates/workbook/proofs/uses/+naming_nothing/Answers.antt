-- The parts, one by one.
use Rattle.std.proofs.Common.{◌∙◌, arith, sym}
use Rattle.formula_ast.proofs.Parts.{node_count-le}
use Rattle.workbook.proofs.NamelessTrees.{nameless-more, named-here}
use Rattle.workbook.proofs.uses.+naming_nothing.Goals as goal

pub name_nothing-names_nothing-requires : goal.name_nothing-names_nothing-requires
name_nothing-names_nothing-requires t c = (omega (arith, node_count-le c.args.exprs.now c.loop-expr.expr-index c.expr-item.result c.loop-expr-test.true c.expr-item.is), tt)

pub name_nothing-returns-then-not-names_nothing : goal.name_nothing-returns-then-not-names_nothing
name_nothing-returns-then-not-names_nothing t c =
    named-here c.args.exprs.now c.loop-expr.expr-index c.expr-item.result c.loop-expr-test.true c.expr-item.is (sym c.if-not-names_nothing.true ∙ c.names_nothing.ensures)

pub name_nothing-loop-expr-preserved : goal.name_nothing-loop-expr-preserved
name_nothing-loop-expr-preserved t c =
    nameless-more c.args.exprs.now c.loop-expr.expr-index c.expr-item.result c.loop-expr-test.true c.expr-item.is c.loop-expr.invariant
    (sym c.if-not-names_nothing.false ∙ c.names_nothing.ensures)
