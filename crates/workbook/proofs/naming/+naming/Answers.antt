-- The parts, one by one.
use Rattle.std.proofs.Common.{◌∙◌, ap, arith, rules, sym}
use Rattle.std.proofs.lemmas.List.{take_all}
use Rattle.formula_ast.specs.Tree.{span_of, trees}
use Rattle.formula_ast.proofs.Parts.{node_count-le}
use Rattle.workbook.specs.Kinds.{all_with_names, meant}
use Rattle.workbook.specs.Known.{names_in}
use Rattle.workbook.proofs.NamedTrees.{all-more, all-none, count_stays, sound-last, span_stays, within-at}
use Rattle.workbook.proofs.naming.+naming.Goals as goal

pub all_named-with_names-requires : goal.all_named-with_names-requires
all_named-with_names-requires t c =
    (omega (arith, node_count-le c.args.exprs.now c.loop-expr.expr-index c.expr-item.result c.loop-expr-test.true c.expr-item.is), (search rules))

pub all_named-returns-in_default-clause-found : goal.all_named-returns-in_default-clause-found
all_named-returns-in_default-clause-found t c =
    all-none (meant c.args.scope.now.sheets.now (names_in c.args.scope.now) c.args.scope.now.home.0) c.args.exprs.now c.loop-expr.expr-index c.expr-item.result
    c.loop-expr-test.true c.expr-item.is (sym c.in_default.is ∙ c.in_ok-made.ensures)

pub all_named-loop-expr-preserved : goal.all_named-loop-expr-preserved
all_named-loop-expr-preserved t c =
    let look = meant c.args.scope.now.sheets.now (names_in c.args.scope.now) c.args.scope.now.home.0 in
    let is = sym c.in-Some.is ∙ c.in_ok-made.ensures in
    let pushed = c.in_ok-push.ensures.items in
    let at = within-at c.args.span c.args.exprs.now c.loop-expr.expr-index c.expr-item.result c.requires.within c.loop-expr-test.true c.expr-item.is in (
      all-more look c.args.exprs.now c.loop-expr.expr-index c.expr-item.result c.in-Some.made c.loop-expr.found.items c.push.new.self.items
          c.loop-expr-test.true c.expr-item.is c.loop-expr.invariant.0 is pushed,
      rw pushed (sound-last c.args.span c.loop-expr.found.items c.in-Some.made c.loop-expr.invariant.1
          (rw (span_stays look c.expr-item.result c.in-Some.made (sym is)) at) c.soundness.ensures),
    )

pub all_named-returns-clause-count : goal.all_named-returns-clause-count
all_named-returns-clause-count t c =
    let look = meant c.args.scope.now.sheets.now (names_in c.args.scope.now) c.args.scope.now.home.0 in
    count_stays look (trees c.args.exprs.now) (trees c.loop-expr.found.items)
    (ap (λ l. all_with_names look (trees l)) (sym (take_all c.loop-expr.expr-index c.args.exprs.now (omega (arith, c.loop-expr-test.false)))) ∙ c.loop-expr.invariant.0)

pub box_with_names-returns-clause-span : goal.box_with_names-returns-clause-span
box_with_names-returns-clause-span t c =
    let look = meant c.args.scope.now.sheets.now (names_in c.args.scope.now) c.args.scope.now.home.0 in
    ap span_of c.in_ok-new.ensures.ok ∙ span_stays look c.args.expr.now c.in-Some.made (sym (sym c.in-Some.is ∙ c.in_ok-made.ensures))
