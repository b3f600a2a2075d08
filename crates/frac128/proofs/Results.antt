-- What a call answers, from a result by cases.
use Rattle.std.proofs.Common.{◌↔◌, refl}
use Rattle.std.specs.Prelude.{Result, Ok, Err, MatchResult, IfOk, IsErr}
use Rattle.std.proofs.lemmas.Bool.{false≢true}

module _ {A E : Type 0} (P : A → Type 0) (N H : Type 0) where
  pub ok_along : (N → H) → (r : Result A E) → MatchResult r (λ f. P f × N) (λ _. ¬ N) → IfOk r (λ _. H)
  ok_along f (Ok x) m = f m.1
  ok_along f (Err e) m = tt

  pub wide_along : (N ↔ H) → (r : Result A E) → MatchResult r (λ f. P f × N) (λ _. ¬ N) → IsErr r ↔ ¬ H
  wide_along i (Ok x) m = (λ e. absurd (false≢true e), λ n. absurd (n (i.0 m.1)))
  wide_along i (Err e) m = (λ _ h. m (i.1 h), λ _. refl)
