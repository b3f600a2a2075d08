use Rattle.std.proofs.Common.{sym, ◌∙◌}
use Rattle.form_areas.proofs.Dots.{first_known, second_known}
use Rattle.form_areas.proofs.products.times.Goals as goal

pub returns-in-Some-default : goal.returns-in-Some-default
returns-in-Some-default c =
    rw c.as_form.ensures
    (first_known c.args.first.now c.args.second.now c.in-Some-default.number c.scale.result (sym c.constant_of.ensures ∙ c.in-Some-default.is-0) c.scale.ensures.answer)

pub returns-in-None-Some : goal.returns-in-None-Some
returns-in-None-Some c =
    rw c.as_form-in-None-Some.ensures
    (second_known c.args.first.now c.args.second.now c.in-None-Some.number c.scale-in-None-Some.result (sym c.constant_of.ensures ∙ c.in-None-Some.is-0) (sym c.constant_of-2.ensures ∙ c.in-None-Some.is-1)
    c.scale-in-None-Some.ensures.answer)
