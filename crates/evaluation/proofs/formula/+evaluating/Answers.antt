-- Each part of an expression, and the arguments one by one.
use Rattle.std.proofs.Common.{arith, ap, map, sym, subst, ◌∙◌, ◌≡◌, IfOk, None, Some, length}
use Rattle.formula_ast.proofs.Parts.{node_count-le, listed-map}
use Rattle.formula_ast.specs.Functions.{Takes}
use Rattle.formula_ast.specs.Sound.{IsSound}
use Rattle.formula_ast.specs.Tree.{trees}
use Rattle.formula_ast.specs.Tree as tree
use Rattle.formula_ast.specs.View.{tree_of}
use Rattle.recalculation.specs.Evaluation.{grid_of_areas}
use Rattle.recalculation.specs.Looking.{arguments}
use Rattle.sheet_model.specs.Operators.{minus_of, percent_of}
use Rattle.evaluation.specs.Composed.{call_part, joined, referred, turned}
use Rattle.evaluation.specs.Parts.{part_of}
use Rattle.evaluation.proofs.Composing.{minus_part, percent_part, infix_part}
use Rattle.evaluation.proofs.Picking.{call_part_is}
use Rattle.evaluation.specs.Tables.{read_at, table_place, unread, unread_at}
use Rattle.evaluation.proofs.Nodes.{unread_go, arguments-count, of_node}
use Rattle.evaluation.proofs.Unread.{call_unread, unread_length}
use Rattle.evaluation.proofs.formula.+evaluating.Goals as goal

pub arguments-argument-requires : goal.arguments-argument-requires
arguments-argument-requires g t c κs within =
    (omega (arith, node_count-le c.args.exprs.now c.loop-index.index c.index-exprs-index.result c.loop-index-test.true c.index-exprs-index.is), within)

pub arguments-loop-index-preserved : goal.arguments-loop-index-preserved
arguments-loop-index-preserved g t c =
    let known = g.C.Cells.known c.args.cells.now in
    unread_go known (table_place c.args.function) c.args.exprs.now c.loop-index.index c.index-exprs-index.result c.loop-index.parts.items _ _ c.loop-index-test.true c.index-exprs-index.is c.loop-index.invariant
    (◌∙◌ {b = read_at c.is_table.result (part_of known c.index-exprs-index.result)} c.in_ok-argument.ensures (ap (λ b. read_at b (part_of known c.index-exprs-index.result)) c.is_table.ensures))
    c.in_ok-push.ensures.items

pub argument-returns-in-Reference : goal.argument-returns-in-Reference
argument-returns-in-Reference g t c =
    let known = g.C.Cells.known c.args.cells.now in
    subst (λ part. IfOk c.table_part.result (λ p. p ≡ part))
    (◌∙◌ {b = unread (part_of known (tree.Reference c.expr.inside.span (map tree.Listed c.in-Reference.areas.items)))}
    (ap (λ areas. record { looks = (grid_of_areas areas).cells; outcome = None; reference = Some (grid_of_areas areas) })
    (◌∙◌ {b = c.in-Reference.areas.items} c.deref.ensures.value (sym (listed-map c.in-Reference.areas.items))))
    (◌∙◌ {b = unread (part_of known c.args.expr.now)} (sym (ap unread (of_node known c.args.expr.now c.expr.inside.span c.expr.inside.node _ c.expr.view_is c.in-Reference.is)))
    (ap (λ b. read_at b (part_of known c.args.expr.now)) (sym c.if-is_table.true))))
    c.table_part.ensures

pub evaluate-returns-in-Reference : goal.evaluate-returns-in-Reference
evaluate-returns-in-Reference g t c =
    let known = g.C.Cells.known c.args.cells.now in
    subst (λ part. IfOk c.reference_part.result (λ p. p ≡ part))
    (◌∙◌ {b = part_of known (tree.Reference c.expr.inside.span (map tree.Listed c.in-Reference.areas.items))}
    (ap (λ areas. referred known (grid_of_areas areas)) (◌∙◌ {b = c.in-Reference.areas.items} c.deref-in-Reference.ensures.value (sym (listed-map c.in-Reference.areas.items))))
    (sym (of_node known c.args.expr.now c.expr.inside.span c.expr.inside.node _ c.expr.view_is c.in-Reference.is)))
    c.reference_part.ensures

-- a call has as many arguments as its function takes
pub evaluate-call_part-requires : goal.evaluate-call_part-requires
evaluate-call_part-requires g t c =
    let known = g.C.Cells.known c.args.cells.now in
    let sound = subst (λ n. IsSound (tree_of c.expr.inside.span n)) c.in-Call.is c.expr.invariant in
    subst (λ n. Takes c.in-Call.function n)
    (sym (ap length (c.in_ok-args-in-Call.ensures ∙ ap (λ xs. unread_at (table_place c.in-Call.function) (arguments known (trees xs))) c.deref-in-Call.ensures.value)
    ∙ unread_length (table_place c.in-Call.function) (arguments known (trees c.in-Call.args.items))
    ∙ arguments-count known (trees c.in-Call.args.items)))
    sound.1

pub evaluate-returns-in_ok-args-in-Call : goal.evaluate-returns-in_ok-args-in-Call
evaluate-returns-in_ok-args-in-Call g t c =
    let known = g.C.Cells.known c.args.cells.now in
    let sound = subst (λ n. IsSound (tree_of c.expr.inside.span n)) c.in-Call.is c.expr.invariant in
    subst (λ part. IfOk c.call_part.result (λ p. p ≡ part))
    (◌∙◌ {b = call_part known c.in-Call.function (unread_at (table_place c.in-Call.function) (arguments known (trees c.in-Call.args.items)))}
    (ap (call_part known c.in-Call.function) (c.in_ok-args-in-Call.ensures ∙ ap (λ xs. unread_at (table_place c.in-Call.function) (arguments known (trees xs))) c.deref-in-Call.ensures.value))
    (◌∙◌ {b = call_part known c.in-Call.function (arguments known (trees c.in-Call.args.items))}
    (call_unread known c.in-Call.function (arguments known (trees c.in-Call.args.items)) (subst (Takes c.in-Call.function) (sym (arguments-count known (trees c.in-Call.args.items))) sound.1))
    (◌∙◌ {b = part_of known (tree.Call c.expr.inside.span c.in-Call.function (trees c.in-Call.args.items))}
    (sym (call_part_is known c.expr.inside.span c.in-Call.function (trees c.in-Call.args.items)))
    (sym (of_node known c.args.expr.now c.expr.inside.span c.expr.inside.node _ c.expr.view_is c.in-Call.is)))))
    c.call_part.ensures

pub evaluate-returns-in_ok-evaluate-in-Minus : goal.evaluate-returns-in_ok-evaluate-in-Minus
evaluate-returns-in_ok-evaluate-in-Minus g t c =
    let known = g.C.Cells.known c.args.cells.now in
    subst (λ part. IfOk c.minus_part.result (λ p. p ≡ part))
    (◌∙◌ {b = turned minus_of (part_of known c.in-Minus.of.value)} (ap (turned minus_of) (c.in_ok-evaluate-in-Minus.ensures ∙ ap (part_of known) c.deref-in-Minus.ensures))
    (◌∙◌ {b = part_of known (tree.Minus c.expr.inside.span c.in-Minus.of.value)} (sym (minus_part known c.expr.inside.span c.in-Minus.of.value))
    (sym (of_node known c.args.expr.now c.expr.inside.span c.expr.inside.node _ c.expr.view_is c.in-Minus.is))))
    c.minus_part.ensures

pub evaluate-returns-in_ok-evaluate-in-Percent : goal.evaluate-returns-in_ok-evaluate-in-Percent
evaluate-returns-in_ok-evaluate-in-Percent g t c =
    let known = g.C.Cells.known c.args.cells.now in
    subst (λ part. IfOk c.percent_part.result (λ p. p ≡ part))
    (◌∙◌ {b = turned percent_of (part_of known c.in-Percent.of.value)} (ap (turned percent_of) (c.in_ok-evaluate-in-Percent.ensures ∙ ap (part_of known) c.deref-in-Percent.ensures))
    (◌∙◌ {b = part_of known (tree.Percent c.expr.inside.span c.in-Percent.of.value)} (sym (percent_part known c.expr.inside.span c.in-Percent.of.value))
    (sym (of_node known c.args.expr.now c.expr.inside.span c.expr.inside.node _ c.expr.view_is c.in-Percent.is))))
    c.percent_part.ensures

pub evaluate-returns-in_ok-right-in-Infix : goal.evaluate-returns-in_ok-right-in-Infix
evaluate-returns-in_ok-right-in-Infix g t c =
    let known = g.C.Cells.known c.args.cells.now in
    let left = c.in_ok-left-in-Infix.ensures ∙ ap (part_of known) c.deref-in-Infix.ensures in
    let right = c.in_ok-right-in-Infix.ensures ∙ ap (part_of known) c.deref-in-Infix-2.ensures in
    subst (λ part. IfOk c.infix_part.result (λ p. p ≡ part))
    (◌∙◌ {b = joined c.in-Infix.op (part_of known c.in-Infix.left.value) (part_of known c.in-Infix.right.value)} (λ i. joined c.in-Infix.op (left i) (right i))
    (◌∙◌ {b = part_of known (tree.Infix c.expr.inside.span c.in-Infix.op c.in-Infix.left.value c.in-Infix.right.value)}
    (sym (infix_part known c.expr.inside.span c.in-Infix.op c.in-Infix.left.value c.in-Infix.right.value))
    (sym (of_node known c.args.expr.now c.expr.inside.span c.expr.inside.node _ c.expr.view_is c.in-Infix.is))))
    c.infix_part.ensures
