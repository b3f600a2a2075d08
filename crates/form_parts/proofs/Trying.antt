-- What a row comes to.
use Rattle.std.proofs.Common.{◌≡◌, ◌∙◌, sym, ap, List, Some, None, Ok, Err}
use Rattle.calculations.specs.Calculation.{narrow}
use Rattle.cell_refs.specs.declared.span.Span.{Span}
use Rattle.form_extraction.specs.Parts.{Part, tried, tried_on}
use Rattle.form_extraction.specs.declared.forms.Outcome.{Outcome}
use Rattle.form_parts.specs.Steps.{IsRefusedBy}
use Rattle.form_values.specs.Trials.{Trial, Answers}
use Rattle.form_values.specs.declared.refusal.OpRefusal.{OpRefusal}
use Rattle.form_values.specs.declared.refusal.OpRefusal.TheVariants as refusal

-- what it gives
pub tried_given : {A : Type 0} (whole : Span) (parts : List Part) (c : Trial A) (f : A → Outcome) (a : A) → narrow c ≡ Some (Ok a) → f a ≡ tried_on whole parts c f
tried_given whole parts c f a h = sym (ap (tried whole parts f) h)

-- where it is refused
pub tried_refused : {A : Type 0} (whole : Span) (parts : List Part) (c : Trial A) (f : A → Outcome) (r : OpRefusal) (o : Outcome) → Answers c (Err r) → IsRefusedBy whole parts r o → o ≡ tried_on whole parts c f
tried_refused whole parts c f refusal.Break o h e = e ∙ sym (ap (tried whole parts f) h)
tried_refused whole parts c f (refusal.Undecided i) o h e = e ∙ sym (ap (tried whole parts f) h)
tried_refused whole parts c f refusal.Wide o h e = e ∙ sym (ap (tried whole parts f) h)
tried_refused whole parts c f refusal.Memory o h e = absurd e
