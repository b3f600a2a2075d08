-- Exact answers of trials.
use Rattle.std.proofs.Common.{◌≡◌, Ok}
use Rattle.calculations.specs.Calculation.{Calculation, exact}
use Rattle.affine_forms.proofs.Exact.{exact-followed_by, exact-turned_into}
use Rattle.form_values.specs.Trials.{Trial, made, and_then, on_given}

pub exact-made : {A B : Type 0} (f : A → B) (c : Calculation A) → exact (made f c) ≡ Ok (f (exact c))
exact-made f c = exact-turned_into (λ a. Ok (f a)) c

pub exact-and_then : {A B : Type 0} (c : Trial A) (f : A → Trial B) → exact (and_then c f) ≡ exact (on_given (exact c) f)
exact-and_then c f = exact-followed_by c (λ r. on_given r f)
