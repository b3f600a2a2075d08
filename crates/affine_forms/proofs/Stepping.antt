-- One operation on narrow numbers, and what goes on with its result.
use Rattle.std.proofs.Common.{◌≡◌, ◌↔◌, refl, sym, ap, ◌∙◌, Bool, true, false, true≢false, if◌then◌else◌, None, Result, Ok, Err}
use Rattle.std.specs.Prelude.{IsTrue, IsErr, MatchResult}
use Rattle.fractions.specs.Rational.{ℚ, ◌+ℚ◌, ◌*ℚ◌, ◌/ℚ◌}
use Rattle.frac128.specs.declared.fault.Wide.{Wide}
use Rattle.frac128.specs.Narrow.{IsNarrow, IsNarrowSum}
use Rattle.frac128.proofs.NarrowLaws.{narrow_test, narrow_sum_test}
use Rattle.calculations.specs.Calculation.{Calculation, Operation, sum, product, quotient, after, narrow, stays_narrow, result_of}
use Rattle.affine_forms.specs.Answers.{AnswersInPlace}
use Rattle.affine_forms.specs.Single.{IsStep}

-- the test of what does not hold
not_narrow : (b : Bool) (P : Type 0) → IsTrue b ↔ P → ¬ P → b ≡ false
not_narrow true P i n = absurd (n (i.0 refl))
not_narrow false P i n = refl

-- an operation told by its test
told : (o : Operation) (P : Type 0) → IsTrue (stays_narrow o) ↔ P → (r : Result ℚ Wide) → MatchResult r (λ f. (f ≡ result_of o) × P) (λ _. ¬ P)
    → IsStep o r
told o P i (Ok f) h = (h.0, i.1 h.1)
told o P i (Err e) n = not_narrow (stays_narrow o) P i n

pub sum-step : (x y : ℚ) (r : Result ℚ Wide) → MatchResult r (λ f. (f ≡ x +ℚ y) × IsNarrowSum x y) (λ _. ¬ (IsNarrowSum x y)) → IsStep (sum x y) r
sum-step x y r h = told (sum x y) (IsNarrowSum x y) (narrow_sum_test x y) r h

pub product-step : (x y : ℚ) (r : Result ℚ Wide) → MatchResult r (λ f. (f ≡ x *ℚ y) × IsNarrow (x *ℚ y)) (λ _. ¬ (IsNarrow (x *ℚ y))) → IsStep (product x y) r
product-step x y r h = told (product x y) (IsNarrow (x *ℚ y)) (narrow_test (x *ℚ y)) r h

pub quotient-step : (x y : ℚ) (r : Result ℚ Wide) → MatchResult r (λ f. (f ≡ x /ℚ y) × IsNarrow (x /ℚ y)) (λ _. ¬ (IsNarrow (x /ℚ y))) → IsStep (quotient x y) r
quotient-step x y r h = told (quotient x y) (IsNarrow (x /ℚ y)) (narrow_test (x /ℚ y)) r h

-- an operation that stays narrow, and one that doesn't
pub goes_on : {A : Type 0} (o : Operation) (rest : ℚ → Calculation A) (x : ℚ) → x ≡ result_of o → stays_narrow o ≡ true → narrow (after o rest) ≡ narrow (rest x)
goes_on o rest x e h = ap (λ b. if b then narrow (rest (result_of o)) else None) h ∙ ap (λ y. narrow (rest y)) (sym e)

pub stops : {A : Type 0} (o : Operation) (rest : ℚ → Calculation A) → stays_narrow o ≡ false → narrow (after o rest) ≡ None
stops o rest h = ap (λ b. if b then narrow (rest (result_of o)) else None) h

-- a number that is too wide in a part is so in the whole
pub is_wide : {A : Type 0} (c : Calculation A) (r : Result A Wide) → IsErr r → narrow c ≡ None → AnswersInPlace c r
is_wide c (Ok x) h e = absurd (true≢false (sym h))
is_wide c (Err w) h e = e
