-- Each part of an expression, and the arguments one by one.
use Rattle.std.proofs.Common.{arith, ap, sym, subst, ◌∙◌, ◌≡◌, IfOk, Some, length}
use Rattle.formula_ast.proofs.Parts.{node_count-le, listed-map}
use Rattle.formula_ast.specs.Functions.{Takes}
use Rattle.formula_ast.specs.Sound.{IsSound}
use Rattle.formula_ast.specs.Tree.{trees}
use Rattle.formula_ast.specs.View.{tree_of}
use Rattle.recalculation.specs.Evaluation.{grid_of_areas}
use Rattle.form_table.specs.Operators.{minus_form, percent_form}
use Rattle.form_extraction.specs.declared.forms.Outcome.TheVariants.{Without}
use Rattle.form_extraction.specs.Formulas.{call_part, joined, part_of, parts_of, referred, signed, turned}
use Rattle.form_calls.specs.FromFormParts.{unread}
use Rattle.extract.specs.Unread.{read_at, table_place, unread_at}
use Rattle.extract.proofs.Nodes.{unread_go, parts-count, of_node}
use Rattle.extract.proofs.Unread.{call_unread, unread_length}
use Rattle.extract.proofs.formula.+extracting.Goals as goal

pub arguments-argument-requires : goal.arguments-argument-requires
arguments-argument-requires g t c κs within =
    (omega (arith, node_count-le c.args.exprs.now c.loop-index.index c.index-exprs-index.result c.loop-index-test.true c.index-exprs-index.is), within)

pub arguments-loop-index-preserved : goal.arguments-loop-index-preserved
arguments-loop-index-preserved g t c =
    let forms = g.C.FormsOfCells.forms c.args.forms.now in
    unread_go forms (table_place c.args.function) c.args.exprs.now c.loop-index.index c.index-exprs-index.result c.loop-index.parts.items _ _ c.loop-index-test.true c.index-exprs-index.is c.loop-index.invariant
    (c.in_ok-argument.ensures ∙ ap (λ b. read_at b (part_of forms c.index-exprs-index.result)) c.is_table.ensures) c.in_ok-push.ensures.items

pub argument-returns-in-Reference : goal.argument-returns-in-Reference
argument-returns-in-Reference g t c =
    let forms = g.C.FormsOfCells.forms c.args.forms.now in
    subst (λ part. IfOk c.table_part.result (λ p. p ≡ part))
    (ap (λ areas. record { span = c.expr.inside.span; looks = (grid_of_areas areas).cells; outcome = Without; reference = Some (grid_of_areas areas) }) (c.deref.ensures.value ∙ sym (listed-map c.in-Reference.areas.items))
    ∙ sym (ap unread (of_node forms c.args.expr.now c.expr.inside.span c.expr.inside.node _ c.expr.view_is c.in-Reference.is))
    ∙ ap (λ b. read_at b (part_of forms c.args.expr.now)) (sym c.if-is_table.true))
    c.table_part.ensures

pub form_part-returns-in-Reference : goal.form_part-returns-in-Reference
form_part-returns-in-Reference g t c =
    let forms = g.C.FormsOfCells.forms c.args.forms.now in
    subst (λ part. IfOk c.reference_part.result (λ p. p ≡ part))
    (ap (λ areas. referred forms c.expr.inside.span (grid_of_areas areas)) (c.deref-in-Reference.ensures.value ∙ sym (listed-map c.in-Reference.areas.items))
    ∙ sym (of_node forms c.args.expr.now c.expr.inside.span c.expr.inside.node _ c.expr.view_is c.in-Reference.is))
    c.reference_part.ensures

-- a call has as many arguments as its function takes
pub form_part-call_part-requires : goal.form_part-call_part-requires
form_part-call_part-requires g t c =
    let forms = g.C.FormsOfCells.forms c.args.forms.now in
    let sound = subst (λ n. IsSound (tree_of c.expr.inside.span n)) c.in-Call.is c.expr.invariant in
    subst (λ n. Takes c.in-Call.function n)
    (sym (ap length (c.in_ok-args-in-Call.ensures ∙ ap (λ xs. unread_at (table_place c.in-Call.function) (parts_of forms (trees xs))) c.deref-in-Call.ensures.value)
    ∙ unread_length (table_place c.in-Call.function) (parts_of forms (trees c.in-Call.args.items))
    ∙ parts-count forms (trees c.in-Call.args.items)))
    sound.1

pub form_part-returns-in_ok-args-in-Call : goal.form_part-returns-in_ok-args-in-Call
form_part-returns-in_ok-args-in-Call g t c =
    let forms = g.C.FormsOfCells.forms c.args.forms.now in
    subst (λ part. IfOk c.call_part.result (λ p. p ≡ part))
    (ap (call_part forms c.expr.inside.span c.in-Call.function) (c.in_ok-args-in-Call.ensures ∙ ap (λ xs. unread_at (table_place c.in-Call.function) (parts_of forms (trees xs))) c.deref-in-Call.ensures.value)
    ∙ call_unread forms c.expr.inside.span c.in-Call.function (parts_of forms (trees c.in-Call.args.items))
    ∙ sym (of_node forms c.args.expr.now c.expr.inside.span c.expr.inside.node _ c.expr.view_is c.in-Call.is))
    c.call_part.ensures

pub form_part-returns-in-Plus : goal.form_part-returns-in-Plus
form_part-returns-in-Plus g t c =
    let forms = g.C.FormsOfCells.forms c.args.forms.now in
    subst (λ part. IfOk c.with_plus.result (λ p. p ≡ part))
    (ap (λ of. signed c.expr.inside.span (part_of forms of)) c.deref-in-Plus.ensures
    ∙ sym (of_node forms c.args.expr.now c.expr.inside.span c.expr.inside.node _ c.expr.view_is c.in-Plus.is))
    c.with_plus.ensures

pub form_part-returns-in-Minus : goal.form_part-returns-in-Minus
form_part-returns-in-Minus g t c =
    let forms = g.C.FormsOfCells.forms c.args.forms.now in
    subst (λ part. IfOk c.with_minus.result (λ p. p ≡ part))
    (ap (λ of. turned c.expr.inside.span minus_form (part_of forms of)) c.deref-in-Minus.ensures
    ∙ sym (of_node forms c.args.expr.now c.expr.inside.span c.expr.inside.node _ c.expr.view_is c.in-Minus.is))
    c.with_minus.ensures

pub form_part-returns-in-Percent : goal.form_part-returns-in-Percent
form_part-returns-in-Percent g t c =
    let forms = g.C.FormsOfCells.forms c.args.forms.now in
    subst (λ part. IfOk c.in_hundredths.result (λ p. p ≡ part))
    (ap (λ of. turned c.expr.inside.span percent_form (part_of forms of)) c.deref-in-Percent.ensures
    ∙ sym (of_node forms c.args.expr.now c.expr.inside.span c.expr.inside.node _ c.expr.view_is c.in-Percent.is))
    c.in_hundredths.ensures

pub form_part-returns-in-Infix : goal.form_part-returns-in-Infix
form_part-returns-in-Infix g t c =
    let forms = g.C.FormsOfCells.forms c.args.forms.now in
    subst (λ part. IfOk c.with_infix.result (λ p. p ≡ part))
    ((λ i. joined c.expr.inside.span c.in-Infix.op (part_of forms (c.deref-in-Infix.ensures i)) (part_of forms (c.deref-in-Infix-2.ensures i)))
    ∙ sym (of_node forms c.args.expr.now c.expr.inside.span c.expr.inside.node _ c.expr.view_is c.in-Infix.is))
    c.with_infix.ensures

pub with_minus-returns : goal.with_minus-returns
with_minus-returns g t c =
    subst (λ part. IfOk c.minus_part.result (λ p. p ≡ part)) (ap (turned c.args.span minus_form) c.in_ok-part.ensures) c.minus_part.ensures

pub in_hundredths-returns : goal.in_hundredths-returns
in_hundredths-returns g t c =
    subst (λ part. IfOk c.percent_part.result (λ p. p ≡ part)) (ap (turned c.args.span percent_form) c.in_ok-part.ensures) c.percent_part.ensures

pub with_infix-returns : goal.with_infix-returns
with_infix-returns g t c =
    subst (λ part. IfOk c.infix_part.result (λ p. p ≡ part))
    (λ i. joined c.args.span c.args.op (c.in_ok-left.ensures i) (c.in_ok-right.ensures i))
    c.infix_part.ensures
