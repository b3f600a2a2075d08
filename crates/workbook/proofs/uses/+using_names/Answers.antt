-- The parts, one by one.
use Rattle.std.proofs.Common.{◌∙◌, arith, sym}
use Rattle.std.specs.Prelude.{option_map}
use Rattle.formula_ast.proofs.Parts.{node_count-le}
use Rattle.workbook.specs.Uses.{is_wanted}
use Rattle.workbook.proofs.UsedNames.{any-here, any-more}
use Rattle.workbook.proofs.uses.+using_names.Goals as goal

pub one_uses-uses-requires : goal.one_uses-uses-requires
one_uses-uses-requires t c = (omega (arith, node_count-le c.args.exprs.now c.loop-expr.expr-index c.expr-item.result c.loop-expr-test.true c.expr-item.is), tt)

pub one_uses-returns-then-uses : goal.one_uses-returns-then-uses
one_uses-returns-then-uses t c =
    any-here (is_wanted (option_map (λ w. w.now) c.args.wanted)) c.args.exprs.now c.loop-expr.expr-index c.expr-item.result c.loop-expr-test.true c.expr-item.is
    (sym c.if-uses.true ∙ c.uses.ensures)

pub one_uses-loop-expr-preserved : goal.one_uses-loop-expr-preserved
one_uses-loop-expr-preserved t c =
    any-more (is_wanted (option_map (λ w. w.now) c.args.wanted)) c.args.exprs.now c.loop-expr.expr-index c.expr-item.result c.loop-expr-test.true c.expr-item.is
    c.loop-expr.invariant (sym c.if-uses.false ∙ c.uses.ensures)
