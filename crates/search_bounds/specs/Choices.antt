-- The choices of a whole value for each decision that is to be whole.
use Rattle.std.specs.Prelude.{◌≡◌, ℕ, zero, suc, ◌*◌, true, if◌then◌else◌, length, Option, Some, None, ℤ, pos, negsuc, ◌+ℤ◌}
use Rattle.fractions.specs.Rational.{ℚ, neg_ℚ}
use Rattle.fractions.specs.Floor.{floor_ℚ}
use Rattle.linear_models.specs.Box.{Box, bound_at}
use Rattle.linear_models.specs.Model.{Model, is_whole_at}

-- a number that isn't below 0, and else 0
abbrev pub or_zero : ℤ → ℕ
or_zero (pos n) = n
or_zero (negsuc n) = 0

-- how many whole numbers there are from a to b: up to the floor of b, from the one whose negative is the floor of -a
abbrev pub wholes_between : Option ℚ → Option ℚ → ℕ
wholes_between None greatest = 0
wholes_between (Some a) None = 0
wholes_between (Some a) (Some b) = or_zero ((floor_ℚ b +ℤ floor_ℚ (neg_ℚ a)) +ℤ pos 1)

-- the whole values of a decision of a box that is to be whole; a decision that isn't counts for 1
abbrev pub values_of : Model → Box → ℕ → ℕ
values_of m box j = if is_whole_at m.whole j then wholes_between (bound_at box.least j) (bound_at box.greatest j) else 1

-- f 0 times f 1 and so on, n factors
abbrev pub product_of : ℕ → (ℕ → ℕ) → ℕ
product_of zero f = 1
product_of (suc n) f = product_of n f * f n

-- the choices of a whole value for each decision that is to be whole
abbrev pub choices_in : Model → Box → ℕ
choices_in m box = product_of (length m.whole) (values_of m box)

abbrev pub at_least_one : ℕ → ℕ
at_least_one zero = 1
at_least_one (suc n) = suc n

-- the same in the model's box, at least 1
abbrev pub choices_of : Model → ℕ
choices_of m = at_least_one (choices_in m m.bounds)

-- each decision that is to be whole has two bounds
abbrev pub IsBounded : Model → Type 0
IsBounded m = (j : ℕ) → is_whole_at m.whole j ≡ true → (a : ℚ) × (b : ℚ) × (bound_at m.bounds.least j ≡ Some a) × (bound_at m.bounds.greatest j ≡ Some b)
