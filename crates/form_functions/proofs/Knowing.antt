-- Calculations on known arguments.
use Rattle.std.proofs.Common.{◌≡◌, ◌∙◌, ap, Some, None, Ok, Err}
use Rattle.std.specs.Prelude.{option_map}
use Rattle.std.specs.Option.{option_and_then}
use Rattle.calculations.specs.Calculation.{Calculation, narrow}
use Rattle.calculations.proofs.CalculationLaws.{narrow-followed_by, narrow-turned_into}
use Rattle.form_values.specs.Known.{known_arg}
use Rattle.form_values.specs.Trials.{Trial, Answers, made, given, and_then, on_given}
use Rattle.form_values.specs.declared.refusal.OpRefusal.{OpRefusal}
use Rattle.form_values.specs.declared.refusal.OpRefusal.TheVariants as refusal
use Rattle.sheet_model.specs.declared.grid.Arg.{Arg}

-- what they give is known
pub known_given : (c : Calculation Arg) (a : Arg) → narrow c ≡ Some a → narrow (made known_arg c) ≡ Some (Ok (known_arg a))
known_given c a h = narrow-turned_into (λ b. Ok (known_arg b)) c ∙ ap (option_map (λ b. Ok (known_arg b))) h

-- where a number isn't narrow
pub known_wide : (c : Calculation Arg) → narrow c ≡ None → narrow (made known_arg c) ≡ None
known_wide c h = narrow-turned_into (λ b. Ok (known_arg b)) c ∙ ap (option_map (λ b. Ok (known_arg b))) h

-- ---- what is made of what a trial gives
pub then_given : {A B : Type 0} (c : Trial A) (g : A → B) (a : A) → narrow c ≡ Some (Ok a) → narrow (and_then c (λ x. given (g x))) ≡ Some (Ok (g a))
then_given c g a h = narrow-followed_by c (λ r. on_given r (λ x. given (g x))) ∙ ap (option_and_then (λ r. narrow (on_given r (λ x. given (g x))))) h

-- where it is refused
pub then_refused : {A B : Type 0} (c : Trial A) (g : A → B) (r : OpRefusal) → Answers c (Err r) → Answers {A = B} (and_then c (λ x. given (g x))) (Err r)
then_refused c g refusal.Break h = narrow-followed_by c (λ r. on_given r (λ x. given (g x))) ∙ ap (option_and_then (λ r. narrow (on_given r (λ x. given (g x))))) h
then_refused c g (refusal.Undecided i) h = narrow-followed_by c (λ r. on_given r (λ x. given (g x))) ∙ ap (option_and_then (λ r. narrow (on_given r (λ x. given (g x))))) h
then_refused c g refusal.Wide h = narrow-followed_by c (λ r. on_given r (λ x. given (g x))) ∙ ap (option_and_then (λ r. narrow (on_given r (λ x. given (g x))))) h
then_refused c g refusal.Memory h = tt
