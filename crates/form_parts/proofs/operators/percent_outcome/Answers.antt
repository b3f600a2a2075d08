use Rattle.std.proofs.Common.{ap, sym, ◌∙◌}
use Rattle.form_extraction.specs.Parts.{Part}
use Rattle.form_table.specs.Operators.{percent_form}
use Rattle.form_parts.proofs.Giving.{turned_given}
use Rattle.form_parts.proofs.operators.percent_outcome.Goals as goal

pub returns : goal.returns
returns c =
    turned_given c.args.span c.args.part.now _ percent_form c.in-Gives.value c.outcome_by.result (ap (λ (p : Part). p.outcome) (sym c.part.view_is) ∙ c.in-Gives.is)
    c.from_ref.ensures.value (c.outcome_by.ensures (percent_form c.in-Gives.value) c.percent.ensures.answer)
