use Rattle.std.proofs.Common.{ap, sym, ◌∙◌}
use Rattle.form_extraction.specs.Parts.{Part}
use Rattle.form_table.specs.Operators.{minus_form}
use Rattle.form_parts.proofs.Giving.{turned_given}
use Rattle.form_parts.proofs.operators.minus_outcome.Goals as goal

pub returns : goal.returns
returns c =
    turned_given c.args.span c.args.part.now _ minus_form c.in-Gives.value c.outcome_by.result (ap (λ (p : Part). p.outcome) (sym c.part.view_is) ∙ c.in-Gives.is)
    c.from_ref.ensures.value (c.outcome_by.ensures (minus_form c.in-Gives.value) c.minus.ensures.answer)
