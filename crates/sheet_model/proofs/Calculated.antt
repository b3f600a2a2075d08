-- Operations on numbers that are narrow or not.
use Rattle.std.proofs.Common.{◌≡◌, ◌↔◌, refl, sym, ap, ◌∙◌, Bool, true, false, if◌then◌else◌, Some, None, Result, Ok, Err}
use Rattle.std.specs.Prelude.{IsTrue, IfOk, MatchResult, ◌&&◌, ℤ}
use Rattle.std.specs.Result.{result_map_both}
use Rattle.fractions.specs.Rational.{ℚ, numerator, ◌+ℚ◌, ◌*ℚ◌, ◌/ℚ◌}
use Rattle.fractions.specs.Power.{power_ℚ}
use Rattle.frac128.specs.declared.fault.Wide.{Wide}
use Rattle.frac128.specs.Narrow.{IsNarrow, IsNarrowSum}
use Rattle.frac128.proofs.NarrowLaws.{narrow_test, narrow_sum_test}
use Rattle.calculations.specs.Calculation.{Calculation, Operation, sum, product, quotient, power, exact, narrow, stays_narrow, result_of}
use Rattle.calculations.proofs.CalculationLaws.{narrow-exact}
use Rattle.sheet_model.specs.Answers.{Answers}
use Rattle.cell_refs.specs.declared.error_kind.ErrorKind.TheVariants as kind
use Rattle.sheet_model.specs.Operators.{calculated, divided, raised}
use Rattle.sheet_model.specs.Tests.{is_zero, is_negative, is_exponent}
use Rattle.sheet_model.specs.declared.stop.FuncStop.{FuncStop}
use Rattle.sheet_model.specs.declared.stop.FuncStop.TheVariants as stop
use Rattle.sheet_model.specs.declared.value.Value.TheVariants.{Number, Error}

-- the test of what does not hold
not_narrow : (b : Bool) (P : Type 0) → IsTrue b ↔ P → ¬ P → b ≡ false
not_narrow true P i n = absurd (n (i.0 refl))
not_narrow false P i n = refl

-- an operation with narrow numbers alone
of_narrow : (o : Operation) → stays_narrow o ≡ true → (f : ℚ) → f ≡ result_of o → narrow (calculated o) ≡ Some (Number f)
of_narrow o e f h = ap (λ b. if b then Some (Number (result_of o)) else None) e ∙ ap (λ x. Some (Number x)) (sym h)

-- an operation with a number that is not narrow
of_wide : (o : Operation) → stays_narrow o ≡ false → narrow (calculated o) ≡ None
of_wide o e = ap (λ b. if b then Some (Number (result_of o)) else None) e

-- an operation's result as a value
pub told : (o : Operation) (P : Type 0) → IsTrue (stays_narrow o) ↔ P → (r : Result ℚ Wide) → MatchResult r (λ f. (f ≡ result_of o) × P) (λ _. ¬ P)
    → Answers (calculated o) (result_map_both Number (λ _. stop.Wide) r)
told o P i (Ok f) h = of_narrow o (i.1 h.1) f h.0
told o P i (Err e) n = of_wide o (not_narrow (stays_narrow o) P i n)

-- a sum as a value
pub sum-told : (x y : ℚ) (r : Result ℚ Wide) → MatchResult r (λ f. (f ≡ x +ℚ y) × IsNarrowSum x y) (λ _. ¬ (IsNarrowSum x y))
    → Answers (calculated (sum x y)) (result_map_both Number (λ _. stop.Wide) r)
sum-told x y r h = told (sum x y) (IsNarrowSum x y) (narrow_sum_test x y) r h

-- a product as a value
pub product-told : (x y : ℚ) (r : Result ℚ Wide) → MatchResult r (λ f. (f ≡ x *ℚ y) × IsNarrow (x *ℚ y)) (λ _. ¬ (IsNarrow (x *ℚ y)))
    → Answers (calculated (product x y)) (result_map_both Number (λ _. stop.Wide) r)
product-told x y r h = told (product x y) (IsNarrow (x *ℚ y)) (narrow_test (x *ℚ y)) r h

-- a quotient as a value
pub quotient-told : (x y : ℚ) (r : Result ℚ Wide) → MatchResult r (λ f. (f ≡ x /ℚ y) × IsNarrow (x /ℚ y)) (λ _. ¬ (IsNarrow (x /ℚ y)))
    → Answers (calculated (quotient x y)) (result_map_both Number (λ _. stop.Wide) r)
quotient-told x y r h = told (quotient x y) (IsNarrow (x /ℚ y)) (narrow_test (x /ℚ y)) r h

-- a power as a value
pub power-told : (x : ℚ) (e : ℤ) (r : Result ℚ Wide) → MatchResult r (λ f. (f ≡ power_ℚ x e) × IsNarrow (power_ℚ x e)) (λ _. ¬ (IsNarrow (power_ℚ x e)))
    → Answers (calculated (power x e)) (result_map_both Number (λ _. stop.Wide) r)
power-told x e r h = told (power x e) (IsNarrow (power_ℚ x e)) (narrow_test (power_ℚ x e)) r h

-- ---- quotients and powers
-- division by 0
pub divided-zero : (x y : ℚ) → is_zero y ≡ true → narrow (divided x y) ≡ Some (Error kind.Div0)
divided-zero x y e = rw e refl

-- division by another number
pub divided-told : (x y : ℚ) (r : Result ℚ Wide) → is_zero y ≡ false → MatchResult r (λ f. (f ≡ x /ℚ y) × IsNarrow (x /ℚ y)) (λ _. ¬ (IsNarrow (x /ℚ y)))
    → Answers (divided x y) (result_map_both Number (λ _. stop.Wide) r)
divided-told x y r e h = rw e (quotient-told x y r h)

-- a negative power of 0
pub raised-zero : (x y : ℚ) → is_exponent y ≡ true → is_zero x ≡ true → is_negative y ≡ true → narrow (raised x y) ≡ Some (Error kind.Div0)
raised-zero x y e z n = rw (e, z, n) refl

-- another power
pub raised-told : (x y : ℚ) (e : ℤ) (r : Result ℚ Wide) → is_exponent y ≡ true → e ≡ numerator y → (is_zero x && is_negative y) ≡ false
    → MatchResult r (λ f. (f ≡ power_ℚ x e) × IsNarrow (power_ℚ x e)) (λ _. ¬ (IsNarrow (power_ℚ x e))) → Answers (raised x y) (result_map_both Number (λ _. stop.Wide) r)
raised-told x y e r is same z h = rw (is, z, ← same) (power-told x e r h)

-- an answer is the exact one
pub answer-exact : {A : Type 0} (c : Calculation A) (r : Result A FuncStop) → Answers c r → IfOk r (λ answer. answer ≡ exact c)
answer-exact c (Ok answer) h = sym (narrow-exact c answer h)
answer-exact c (Err e) h = tt
