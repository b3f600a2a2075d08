use Rattle.std.proofs.Common.{sym, subst, IsTrue}
use Rattle.form_values.specs.OpenForms.{is_open, decision_is_open}
use Rattle.form_values.proofs.open_form.Open.decision.Goals as goal

pub invariant_of-result : goal.invariant_of-result
invariant_of-result c = record { has_a_term = subst (λ f. IsTrue (is_open f)) (sym c.decision.ensures) (decision_is_open c.args.j) }
