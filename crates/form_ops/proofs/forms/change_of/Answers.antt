use Rattle.std.proofs.Common.{ap, sym, ◌∙◌, Some, Ok}
use Rattle.fractions.specs.Rational.{inv_ℚ}
use Rattle.calculations.specs.Calculation.{narrow}
use Rattle.affine_forms.specs.Steps.{scaled}
use Rattle.form_values.specs.Entries.{entry}
use Rattle.form_ops.specs.Pairings.{change_row}
use Rattle.form_ops.proofs.Answering.{form_answers, same_multiple}
use Rattle.form_ops.proofs.forms.change_of.Goals as goal

pub returns-in_ok-neg-in-Minus-clause-answer : goal.returns-in_ok-neg-in-Minus-clause-answer
returns-in_ok-neg-in-Minus-clause-answer c =
    ap (λ change. narrow (change_row change c.args.form.now)) c.in-Minus.is ∙ ap (λ a. Some (Ok a)) (sym (c.entry.ensures ∙ ap entry c.in_ok-neg-in-Minus.ensures.ok))

pub returns-in-Percent-clause-answer : goal.returns-in-Percent-clause-answer
returns-in-Percent-clause-answer c =
    rw (c.in-Percent.is, c.as_entry.ensures)
    (same_multiple c.inverse.result _ c.args.form.now _ (c.inverse.ensures ∙ ap inv_ℚ c.from_whole.ensures)
    (form_answers entry (scaled c.inverse.result c.args.form.now) c.scale.result c.scale.ensures.answer))
