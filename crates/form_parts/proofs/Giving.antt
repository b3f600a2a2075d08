-- The values of some parts, one after the other.
use Rattle.std.proofs.Common.{◌≡◌, ◌∙◌, sym, ap, refl, List, [], ◌∷◌, ◌++◌, append_assoc, append-nil, Some, None, Result, subst, IfOk}
use Rattle.std.proofs.lemmas.Option.{none-some}
use Rattle.form_extraction.specs.Parts.{Part, value_in, outcome_by, on_outcome, on_part, on_parts}
use Rattle.cell_refs.specs.declared.span.Span.{Span}
use Rattle.form_values.specs.Trials.{Trial}
use Rattle.form_extraction.specs.declared.forms.Outcome.{Outcome}
use Rattle.form_extraction.specs.declared.forms.Outcome.TheVariants.{Gives, Refused, Without}
use Rattle.form_values.specs.declared.abs.AbsArg.{AbsArg}

-- the values so far, and then those of the rest
abbrev pub AreBehind : List Part → List AbsArg → List Part → Type 0
AreBehind parts front rest = (f : List AbsArg → Outcome) → on_parts parts f ≡ on_parts rest (λ args. f (front ++ args))

-- one value more
pub one_more : (parts : List Part) (front new : List AbsArg) (p : Part) (rest : List Part) (a : AbsArg) → AreBehind parts front (p ∷ rest) → p.outcome ≡ Gives a → new ≡ front ++ a ∷ []
    → AreBehind parts new rest
one_more parts front new p rest a h e more f =
    h f ∙ ap (λ o. on_outcome o (λ b. on_parts rest (λ args. f (front ++ b ∷ args)))) e
    ∙ ap (λ (g : List AbsArg → Outcome). on_parts rest g) (λ i. λ args. f (sym (append_assoc front (a ∷ []) args) i))
    ∙ ap (λ (values : List AbsArg). on_parts rest (λ args. f (values ++ args))) (sym more)

-- without a value nothing is made
stays : (o : Outcome) → value_in o ≡ None → (f : AbsArg → Outcome) → o ≡ on_outcome o f
stays (Gives a) h f = absurd (none-some a (sym h))
stays (Refused at cause) h f = refl
stays Without h f = refl

-- the first part without a value
pub stopped : (parts : List Part) (front : List AbsArg) (p : Part) (rest : List Part) (o : Outcome) → AreBehind parts front (p ∷ rest) → p.outcome ≡ o → value_in o ≡ None
    → (f : List AbsArg → Outcome) → o ≡ on_parts parts f
stopped parts front p rest o h e none f =
    stays o none (λ b. on_parts rest (λ args. f (front ++ b ∷ args)))
    ∙ ap (λ o. on_outcome o (λ b. on_parts rest (λ args. f (front ++ b ∷ args)))) (sym e) ∙ sym (h f)

-- at the end
pub all_there : (parts : List Part) (front : List AbsArg) → AreBehind parts front [] → (f : List AbsArg → Outcome) → f front ≡ on_parts parts f
all_there parts front h f = sym (h f ∙ ap f (append-nil front))

-- ---- operators
-- one in front or behind
pub turned_given : {E : Type 0} (s : Span) (p : Part) (ps : List Part) (f : AbsArg → Trial AbsArg) (a : AbsArg) (r : Result Outcome E) → p.outcome ≡ Gives a → ps ≡ p ∷ []
    → IfOk r (λ o. o ≡ outcome_by s ps (f a)) → IfOk r (λ o. o ≡ on_part p (λ b. outcome_by s (p ∷ []) (f b)))
turned_given s p ps f a r e same h =
    subst (λ (o : Outcome). IfOk r (λ x. x ≡ on_outcome o (λ b. outcome_by s (p ∷ []) (f b)))) (sym e)
    (subst (λ (qs : List Part). IfOk r (λ x. x ≡ outcome_by s qs (f a))) same h)

-- one between two parts
pub joined_given : {E : Type 0} (p q : Part) (g : AbsArg → AbsArg → Outcome) (a b : AbsArg) (r : Result Outcome E) → p.outcome ≡ Gives a → q.outcome ≡ Gives b
    → IfOk r (λ o. o ≡ g a b) → IfOk r (λ o. o ≡ on_part p (λ x. on_part q (λ y. g x y)))
joined_given p q g a b r e f h =
    subst (λ (o : Outcome). IfOk r (λ x. x ≡ on_outcome o (λ x. on_part q (λ y. g x y)))) (sym e)
    (subst (λ (o : Outcome). IfOk r (λ x. x ≡ on_outcome o (λ y. g a y))) (sym f) h)
