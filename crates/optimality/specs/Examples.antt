-- Problems with one group whose permitted assignments are known.
use Rattle.std.specs.Prelude.{ℕ, List, [], ◌∷◌, None, pos}
use Rattle.fractions.specs.Rational.{ℚ}
use Rattle.fractions.specs.Whole.{whole_ℚ}
use Rattle.optimality.specs.Problem.{Problem, greatest}
use Rattle.optimality.specs.Optimal.{Permitted}

-- so many decisions, of which nothing but this is asked
abbrev pub with_groups : ℕ → List (List ℕ) → List (List ℕ) → Problem
with_groups n numbered different = record {
  decisions = n;
  rows = [];
  whole = [];
  binary = [];
  not_negative = [];
  numbered = numbered;
  different = different;
  objective = None;
  goal = greatest;
}

abbrev pub number : ℕ → ℚ
number n = whole_ℚ (pos n)

-- three decisions hold the numbers 1 to 3, in any order; two equal ones are refused, and so is a number that isn't one of them
pub record NumberedThree : Type 0 where
  pub in_another_order : Permitted (with_groups 3 ((0 ∷ 1 ∷ 2 ∷ []) ∷ []) []) (number 2 ∷ number 3 ∷ number 1 ∷ [])
  pub two_equal : ¬ (Permitted (with_groups 3 ((0 ∷ 1 ∷ 2 ∷ []) ∷ []) []) (number 2 ∷ number 2 ∷ number 1 ∷ []))
  pub beyond : ¬ (Permitted (with_groups 3 ((0 ∷ 1 ∷ 2 ∷ []) ∷ []) []) (number 2 ∷ number 4 ∷ number 1 ∷ []))

-- two decisions that are to be different may hold any two numbers but the same one twice
pub record DifferentTwo : Type 0 where
  pub beyond : Permitted (with_groups 2 [] ((0 ∷ 1 ∷ []) ∷ [])) (number 7 ∷ number 0 ∷ [])
  pub two_equal : ¬ (Permitted (with_groups 2 [] ((0 ∷ 1 ∷ []) ∷ [])) (number 7 ∷ number 7 ∷ []))
