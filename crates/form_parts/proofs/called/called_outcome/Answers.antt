use Rattle.std.proofs.Common.{◌≡◌, List, IfOk, ap, sym, subst, ◌∙◌}
use Rattle.form_extraction.specs.Parts.{outcome_by}
use Rattle.form_extraction.specs.declared.forms.Outcome.{Outcome}
use Rattle.form_parts.specs.Steps.{on_values}
use Rattle.form_table.specs.Table.{form_called}
use Rattle.form_values.specs.declared.abs.AbsArg.{AbsArg}
use Rattle.form_parts.proofs.called.called_outcome.Goals as goal

pub returns : goal.returns
returns c =
    let made : List AbsArg → Outcome = λ values. outcome_by c.args.whole c.args.args.now (form_called c.args.function values) in
    subst (λ (o : Outcome). IfOk c.outcome_by.result (λ x. x ≡ o)) (ap made c.deref.ensures.value ∙ ap (λ v. on_values v made) (sym c.in-All.is) ∙ c.in_ok-values.ensures.values made)
    (c.outcome_by.ensures (form_called c.args.function c.deref.result.now) c.form_called.ensures)
