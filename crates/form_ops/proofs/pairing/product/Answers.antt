use Rattle.std.proofs.Common.{sym, ◌∙◌}
use Rattle.affine_forms.specs.Steps.{scaled}
use Rattle.form_values.specs.Entries.{entry}
use Rattle.form_ops.proofs.Answering.{form_answers, first_known, second_known}
use Rattle.form_ops.proofs.pairing.product.Goals as goal

pub returns-in-Some-default : goal.returns-in-Some-default
returns-in-Some-default c =
    let f = c.args.first.now in
    let g = c.args.second.now in
    let k = c.in-Some-default.number in
    first_known f g k _ (sym c.constant_of.ensures ∙ c.in-Some-default.is-0) (rw c.as_entry.ensures (form_answers entry (scaled k g) c.scale.result c.scale.ensures.answer))

pub returns-in-None-Some : goal.returns-in-None-Some
returns-in-None-Some c =
    let f = c.args.first.now in
    let g = c.args.second.now in
    let k = c.in-None-Some.number in
    second_known f g k _ (sym c.constant_of.ensures ∙ c.in-None-Some.is-0) (sym c.constant_of-2.ensures ∙ c.in-None-Some.is-1)
    (rw c.as_entry-in-None-Some.ensures (form_answers entry (scaled k f) c.scale-in-None-Some.result c.scale-in-None-Some.ensures.answer))
