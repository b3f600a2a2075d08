use Rattle.std.proofs.Common.{sym, ◌∙◌}
use Rattle.affine_forms.specs.Steps.{scaled}
use Rattle.form_values.specs.Entries.{entry}
use Rattle.form_ops.proofs.Answering.{form_answers, divisor_known}
use Rattle.form_ops.proofs.pairing.quotient.Goals as goal

pub returns-in-Some : goal.returns-in-Some
returns-in-Some c =
    divisor_known c.args.first.now c.args.second.now c.in-Some.number c.inverse.result _ (sym c.constant_of.ensures ∙ c.in-Some.is) c.inverse.ensures
    (rw c.as_entry.ensures (form_answers entry (scaled c.inverse.result c.args.first.now) c.scale.result c.scale.ensures.answer))
