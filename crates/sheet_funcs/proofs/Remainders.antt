-- What is left of one number by another, and powers of 10.
use Rattle.std.proofs.Common.{◌≡◌, ◌≢◌, refl, subst, true, false, ℤ, pos, negsuc, suc, Some, Result, Ok, Err}
use Rattle.std.specs.Result.{IsErrAnd}
use Rattle.fractions.specs.Rational.{ℚ, zero_ℚ, neg_ℚ}
use Rattle.fractions.specs.Power.{power_ℚ}
use Rattle.fractions.proofs.Powers.{inv-ne-zero, repeated-ne-zero}
use Rattle.calculations.specs.Calculation.{Calculation, sum, product, quotient, after, done, narrow}
use Rattle.cell_refs.specs.declared.error_kind.ErrorKind.TheVariants as kind
use Rattle.sheet_model.specs.Answers.{Answers}
use Rattle.sheet_model.specs.Tests.{is_zero}
use Rattle.sheet_model.specs.declared.grid.Arg.{Arg}
use Rattle.sheet_model.specs.declared.grid.Arg.TheVariants.{One}
use Rattle.sheet_model.specs.declared.stop.FuncStop.{FuncStop}
use Rattle.sheet_model.specs.declared.value.Value.TheVariants.{Number, Error}
use Rattle.sheet_funcs.specs.Arguments.{counted}
use Rattle.sheet_funcs.specs.Rounding.{remainder, rounded}
use Rattle.sheet_funcs.specs.Steps.{IsStep}
use Rattle.sheet_funcs.proofs.Stepping.{step_answers, step_goes, step_stops, turned_stops}

-- x - p, for a multiple p of the divisor
abbrev last : ℚ → ℚ → Calculation ℚ
last x p = after (sum x (neg_ℚ p)) done

-- x - y*INT(q)
abbrev rest : ℚ → ℚ → ℚ → Calculation ℚ
rest x y q = after (product y (rounded q)) (last x)

abbrev steps : ℚ → ℚ → Calculation ℚ
steps x y = after (quotient x y) (rest x y)

other : (x y : ℚ) (r : Result Arg FuncStop) → is_zero y ≡ false → Answers (counted (steps x y)) r → Answers (remainder x y) r
other x y r e h = rw e h

-- by 0
pub remainder-zero : (x y : ℚ) (a : Arg) → is_zero y ≡ true → a ≡ One (Error kind.Div0) → narrow (remainder x y) ≡ Some a
remainder-zero x y a e f = rw (e, f) refl

-- the quotient isn't narrow
pub quotient_stops : (x y : ℚ) (e : FuncStop) (r : Result Arg FuncStop) → is_zero y ≡ false → IsErrAnd r (λ s. s ≡ e) → IsStep (quotient x y) (Err e) → Answers (remainder x y) r
quotient_stops x y e r nonzero is step = other x y r nonzero (turned_stops (λ n. One (Number n)) (steps x y) e r is (step_stops (quotient x y) (rest x y) e (Err e) step refl))

-- the multiple isn't
pub multiple_stops : (x y q n : ℚ) (e : FuncStop) (r : Result Arg FuncStop) → is_zero y ≡ false → IsErrAnd r (λ s. s ≡ e) → IsStep (quotient x y) (Ok q) → n ≡ rounded q → IsStep (product y n) (Err e)
    → Answers (remainder x y) r
multiple_stops x y q n e r nonzero is step same next =
    other x y r nonzero
    (turned_stops (λ m. One (Number m)) (steps x y) e r is
    (step_goes (quotient x y) (rest x y) q (Err e) step (step_stops (product y (rounded q)) (last x) e (Err e) (subst (λ m. IsStep (product y m) (Err e)) same next) refl)))

-- all of it
pub remainder_answers : (x y q n p m : ℚ) (left : Result ℚ FuncStop) (r : Result Arg FuncStop) → is_zero y ≡ false → IsStep (quotient x y) (Ok q) → n ≡ rounded q → IsStep (product y n) (Ok p)
    → m ≡ neg_ℚ p → IsStep (sum x m) left → ((c : Calculation ℚ) → Answers c left → Answers (counted c) r) → Answers (remainder x y) r
remainder_answers x y q n p m left r nonzero step same next turned end goes =
    other x y r nonzero
    (goes (steps x y)
    (step_goes (quotient x y) (rest x y) q left step
    (step_goes (product y (rounded q)) (last x) p left (subst (λ k. IsStep (product y k) (Ok p)) same next)
    (step_answers (sum x (neg_ℚ p)) left (subst (λ k. IsStep (sum x k) left) turned end)))))

-- a power of another number than 0
pub power-ne-zero : (x : ℚ) (e : ℤ) → x ≢ zero_ℚ → power_ℚ x e ≢ zero_ℚ
unfolding power_ℚ
power-ne-zero x (pos k) h = repeated-ne-zero x k h
power-ne-zero x (negsuc k) h = inv-ne-zero _ (repeated-ne-zero x (suc k) h)
