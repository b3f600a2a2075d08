-- Functions of two numbers.
use Rattle.std.proofs.Common.{◌≡◌, ◌<◌, ◌≤◌, arith, sym, subst, List, [], ◌∷◌, length, get_or, Result, Ok}
use Rattle.calculations.specs.Calculation.{Calculation}
use Rattle.fractions.specs.Rational.{ℚ}
use Rattle.sheet_model.specs.Answers.{Answers}
use Rattle.sheet_model.specs.declared.grid.Arg.{Arg}
use Rattle.sheet_model.specs.declared.stop.FuncStop.{FuncStop}
use Rattle.sheet_funcs.specs.Arguments.{of_two, on_ok}
use Rattle.sheet_funcs.specs.Rounding.{number_of}

-- two arguments alone
pub two : (args : List Arg) (a b : Arg) → 2 ≤ length args → length args < 3 → a ≡ get_or args 0 a → b ≡ get_or args 1 b → args ≡ a ∷ b ∷ []
two [] a b h k e f = absurd (omega arith)
two (x ∷ []) a b h k e f = absurd (omega arith)
two (x ∷ y ∷ []) a b h k e f = cc
two (x ∷ y ∷ z ∷ zs) a b h k e f = absurd (omega arith)

-- what is made of two numbers
abbrev of_numbers : (ℚ → ℚ → Calculation Arg) → Arg → Arg → Calculation Arg
of_numbers f a b = on_ok (number_of a) (λ x. on_ok (number_of b) (f x))

both : (f : ℚ → ℚ → Calculation Arg) (a b : Arg) (x y : ℚ) (r : Result Arg FuncStop) → Ok x ≡ number_of a → Ok y ≡ number_of b → Answers (f x y) r → Answers (of_numbers f a b) r
both f a b x y r e g h = rw (← e, ← g) h

pub numbers_answer : (f : ℚ → ℚ → Calculation Arg) (args : List Arg) (a b : Arg) (x y : ℚ) (r : Result Arg FuncStop) → 2 ≤ length args → length args < 3 → a ≡ get_or args 0 a → b ≡ get_or args 1 b
    → Ok x ≡ number_of a → Ok y ≡ number_of b → Answers (f x y) r → Answers (of_two (of_numbers f) args) r
numbers_answer f args a b x y r some few first second e g h =
    subst (λ xs. Answers (of_two (of_numbers f) xs) r) (sym (two args a b some few first second)) (both f a b x y r e g h)
