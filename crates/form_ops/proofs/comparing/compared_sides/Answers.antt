use Rattle.std.proofs.Common.{ap, sym, ◌∙◌, Some}
use Rattle.std.specs.Prelude.{option_map}
use Rattle.affine_forms.specs.Steps.{subtracted}
use Rattle.form_values.specs.Entries.{test}
use Rattle.form_table.specs.Operators.{relation_of}
use Rattle.form_ops.specs.Operands.{form_in}
use Rattle.form_ops.proofs.Answering.{form_answers, compared_numbers}
use Rattle.form_ops.proofs.comparing.compared_sides.Goals as goal

pub returns-in-Some-Some : goal.returns-in-Some-Some
returns-in-Some-Some c =
    let f = c.get.result.now in
    let g = c.get-in-Some-Some.result.now in
    compared_numbers c.args.op _ _ f g _
    (sym c.comparable.ensures ∙ ap (option_map form_in) c.in-Some-Some.is-0 ∙ ap Some (sym c.form-first.ensures) ∙ ap Some (sym c.get.ensures))
    (sym c.comparable-2.ensures ∙ ap (option_map form_in) c.in-Some-Some.is-1 ∙ ap Some (sym c.form-second.ensures) ∙ ap Some (sym c.get-in-Some-Some.ensures))
    (rw (c.as_test.ensures, c.relation_of.ensures) (form_answers (test (relation_of c.args.op)) (subtracted f g) c.sub.result c.sub.ensures.answer))
