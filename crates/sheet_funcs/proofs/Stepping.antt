-- One operation on narrow numbers, and what goes on with its result.
use Rattle.std.proofs.Common.{◌≡◌, ◌↔◌, refl, sym, ap, ◌∙◌, subst, Bool, true, false, if◌then◌else◌, ℤ, Some, None, Result, Ok, Err}
use Rattle.std.specs.Prelude.{IsTrue, MatchResult}
use Rattle.std.specs.Option.{option_and_then, option_map}
use Rattle.std.specs.Result.{IsErrAnd, result_map_both}
use Rattle.fractions.specs.Rational.{ℚ, ◌+ℚ◌, ◌*ℚ◌, ◌/ℚ◌}
use Rattle.fractions.specs.Power.{power_ℚ}
use Rattle.frac128.specs.declared.fault.Wide.{Wide}
use Rattle.frac128.specs.Narrow.{IsNarrow, IsNarrowSum}
use Rattle.frac128.proofs.NarrowLaws.{narrow_test, narrow_sum_test}
use Rattle.calculations.specs.Calculation.{Calculation, Operation, sum, product, quotient, power, done, after, narrow, stays_narrow, result_of, followed_by, turned_into}
use Rattle.calculations.proofs.CalculationLaws.{narrow-followed_by, narrow-turned_into}
use Rattle.cell_refs.specs.declared.error_kind.ErrorKind.{ErrorKind}
use Rattle.sheet_model.specs.Answers.{Answers}
use Rattle.sheet_model.specs.declared.grid.Arg.{Arg}
use Rattle.sheet_model.specs.declared.stop.FuncStop.{FuncStop}
use Rattle.sheet_model.specs.declared.stop.FuncStop.TheVariants as stop
use Rattle.sheet_model.proofs.Spreading.{stopped}
use Rattle.sheet_funcs.specs.Arguments.{on_ok}
use Rattle.sheet_funcs.specs.Steps.{IsStep}

-- the test of what does not hold
not_narrow : (b : Bool) (P : Type 0) → IsTrue b ↔ P → ¬ P → b ≡ false
not_narrow true P i n = absurd (n (i.0 refl))
not_narrow false P i n = refl

-- an operation told by its test
told : (o : Operation) (P : Type 0) → IsTrue (stays_narrow o) ↔ P → (r : Result ℚ Wide) → MatchResult r (λ f. (f ≡ result_of o) × P) (λ _. ¬ P)
    → IsStep o (result_map_both (λ x. x) (λ _. stop.Wide) r)
told o P i (Ok f) h = (h.0, i.1 h.1)
told o P i (Err e) n = (refl, not_narrow (stays_narrow o) P i n)

pub sum-step : (x y : ℚ) (r : Result ℚ Wide) → MatchResult r (λ f. (f ≡ x +ℚ y) × IsNarrowSum x y) (λ _. ¬ (IsNarrowSum x y))
    → IsStep (sum x y) (result_map_both (λ x. x) (λ _. stop.Wide) r)
sum-step x y r h = told (sum x y) (IsNarrowSum x y) (narrow_sum_test x y) r h

pub product-step : (x y : ℚ) (r : Result ℚ Wide) → MatchResult r (λ f. (f ≡ x *ℚ y) × IsNarrow (x *ℚ y)) (λ _. ¬ (IsNarrow (x *ℚ y)))
    → IsStep (product x y) (result_map_both (λ x. x) (λ _. stop.Wide) r)
product-step x y r h = told (product x y) (IsNarrow (x *ℚ y)) (narrow_test (x *ℚ y)) r h

pub quotient-step : (x y : ℚ) (r : Result ℚ Wide) → MatchResult r (λ f. (f ≡ x /ℚ y) × IsNarrow (x /ℚ y)) (λ _. ¬ (IsNarrow (x /ℚ y)))
    → IsStep (quotient x y) (result_map_both (λ x. x) (λ _. stop.Wide) r)
quotient-step x y r h = told (quotient x y) (IsNarrow (x /ℚ y)) (narrow_test (x /ℚ y)) r h

pub power-step : (x : ℚ) (e k : ℤ) (r : Result ℚ Wide) → k ≡ e → MatchResult r (λ f. (f ≡ power_ℚ x k) × IsNarrow (power_ℚ x k)) (λ _. ¬ (IsNarrow (power_ℚ x k)))
    → IsStep (power x e) (result_map_both (λ x. x) (λ _. stop.Wide) r)
power-step x e k r same h =
    subst (λ n. IsStep (power x n) (result_map_both (λ x. x) (λ _. stop.Wide) r)) same (told (power x k) (IsNarrow (power_ℚ x k)) (narrow_test (power_ℚ x k)) r h)

-- ---- what goes on with the result
-- a calculation with the same answer on narrow numbers
pub same_answers : {A : Type 0} (c d : Calculation A) (r : Result A FuncStop) → narrow d ≡ narrow c → Answers c r → Answers d r
same_answers c d (Ok x) e h = e ∙ h
same_answers c d (Err stop.Wide) e h = e ∙ h
same_answers c d (Err stop.Memory) e h = tt

-- an operation that stays narrow
goes_on : {A : Type 0} (o : Operation) (rest : ℚ → Calculation A) (x : ℚ) → x ≡ result_of o → stays_narrow o ≡ true → narrow (after o rest) ≡ narrow (rest x)
goes_on o rest x e h = ap (λ b. if b then narrow (rest (result_of o)) else None) h ∙ ap (λ y. narrow (rest y)) (sym e)

-- an operation that doesn't
pub is_wide : {A : Type 0} (o : Operation) (rest : ℚ → Calculation A) (e : FuncStop) → IsStep o (Err e) → narrow (after o rest) ≡ None
is_wide o rest e h = ap (λ b. if b then narrow (rest (result_of o)) else None) h.1

pub step_goes : {A : Type 0} (o : Operation) (rest : ℚ → Calculation A) (x : ℚ) (r : Result A FuncStop) → IsStep o (Ok x) → Answers (rest x) r → Answers (after o rest) r
step_goes o rest x r h a = same_answers (rest x) (after o rest) r (goes_on o rest x h.0 h.1) a

pub step_stops : {A : Type 0} (o : Operation) (rest : ℚ → Calculation A) (e : FuncStop) (r : Result A FuncStop) → IsStep o (Err e) → IsErrAnd r (λ s. s ≡ e) → Answers (after o rest) r
step_stops o rest e (Ok x) h is = absurd is
step_stops o rest e (Err s) h is = subst (λ t. Answers (after o rest) (Err t)) (sym (is ∙ h.0)) (is_wide o rest e h)

-- an operation alone
pub step_some : (o : Operation) (x : ℚ) → IsStep o (Ok x) → narrow (after o done) ≡ Some x
step_some o x h = goes_on o done x h.0 h.1

pub step_answers : (o : Operation) (r : Result ℚ FuncStop) → IsStep o r → Answers (after o done) r
step_answers o (Ok x) h = step_some o x h
step_answers o (Err e) h = subst (λ t. Answers (after o done) (Err t)) (sym h.0) (is_wide o done e h)

-- ---- one calculation behind another
pub followed_answers : {A B : Type 0} (c : Calculation A) (f : A → Calculation B) (x : A) (r : Result B FuncStop) → narrow c ≡ Some x → Answers (f x) r → Answers (followed_by c f) r
followed_answers c f x r h a = same_answers (f x) (followed_by c f) r (narrow-followed_by c f ∙ ap (option_and_then (λ a. narrow (f a))) h) a

pub turned_stops : {A B : Type 0} (g : A → B) (c : Calculation A) (e : FuncStop) (r : Result B FuncStop) → IsErrAnd r (λ s. s ≡ e) → Answers c (Err e) → Answers (turned_into g c) r
turned_stops g c e r is h = stopped c (turned_into g c) e r is h (λ wide. narrow-turned_into g c ∙ ap (option_map g) wide)
