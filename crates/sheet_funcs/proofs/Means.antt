-- The sum divided by how many there are.
use Rattle.std.proofs.Common.{◌≡◌, ◌≢◌, refl, subst, pos, List, [], ◌∷◌, length, Some, Result}
use Rattle.fractions.specs.Rational.{ℚ, zero_ℚ}
use Rattle.calculations.specs.Calculation.{Calculation, quotient, after, done, followed_by, narrow}
use Rattle.sheet_model.specs.Answers.{Answers}
use Rattle.sheet_model.specs.declared.grid.Arg.{Arg}
use Rattle.sheet_model.specs.declared.stop.FuncStop.{FuncStop}
use Rattle.sheet_funcs.specs.Arguments.{counted}
use Rattle.sheet_funcs.specs.Steps.{IsStep}
use Rattle.sheet_funcs.specs.Sums.{how_many, mean, total}
use Rattle.sheet_funcs.proofs.Numbers.{whole-ne-zero}
use Rattle.sheet_funcs.proofs.Stepping.{followed_answers, step_answers}

-- of some numbers
abbrev divided : List ℚ → Calculation ℚ
divided xs = followed_by (total xs) (λ s. after (quotient s (how_many xs)) done)

some : (xs : List ℚ) (r : Result Arg FuncStop) → pos (length xs) ≢ pos 0 → Answers (counted (divided xs)) r → Answers (mean xs) r
some [] r e h = absurd (e refl)
some (x ∷ xs) r e h = h

-- the sum divided
pub mean_answers : (xs : List ℚ) (s n : ℚ) (q : Result ℚ FuncStop) (r : Result Arg FuncStop) → pos (length xs) ≢ pos 0 → n ≡ how_many xs → narrow (total xs) ≡ Some s → IsStep (quotient s n) q
    → ((c : Calculation ℚ) → Answers c q → Answers (counted c) r) → Answers (mean xs) r
mean_answers xs s n q r some_items e h step goes =
    some xs r some_items (goes (divided xs) (followed_answers (total xs) (λ s. after (quotient s (how_many xs)) done) s q h (step_answers (quotient s (how_many xs)) q (subst (λ m. IsStep (quotient s m) q) e step))))
