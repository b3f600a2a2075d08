use Rattle.std.proofs.Common.{[], ◌∷◌, ap, sym, ◌∙◌}
use Rattle.form_extraction.specs.Parts.{Part, outcome_by}
use Rattle.form_table.specs.Operators.{infix_form}
use Rattle.form_parts.proofs.Giving.{joined_given}
use Rattle.form_parts.proofs.operators.infix_outcome.Goals as goal

pub returns : goal.returns
returns c =
    let p = c.args.left.now in
    let q = c.args.right.now in
    joined_given p q (λ a b. outcome_by c.args.span (p ∷ q ∷ []) (infix_form c.args.op a b)) c.in-Gives.first c.in-Gives-outcome.second c.outcome_of_two.result
    (ap (λ (h : Part). h.outcome) (sym c.left.view_is) ∙ c.in-Gives.is) (ap (λ (h : Part). h.outcome) (sym c.right.view_is) ∙ c.in-Gives-outcome.is)
    (c.outcome_of_two.ensures (infix_form c.args.op c.in-Gives.first c.in-Gives-outcome.second) c.infix.ensures.answer)
