-- The greatest whole number that is not above a fraction.
use Rattle.std.specs.Prelude.{ℕ, ◌/◌, ℤ, pos, negsuc, ◌≤ℤ◌}
use Rattle.fractions.specs.Rational.{ℚ, numerator, denominator, ◌≤ℚ◌}
use Rattle.fractions.specs.Whole.{whole_ℚ}

-- n over d, rounded down
abbrev pub rounded_down : ℤ → ℕ → ℤ
rounded_down (pos n) d = pos (n / d)
rounded_down (negsuc n) d = negsuc (n / d)

-- the whole part of x
unfoldable pub floor_ℚ : ℚ → ℤ
floor_ℚ x = rounded_down (numerator x) (denominator x)

-- n is not above x, and no whole number above n is
pub record IsFloor (x : ℚ) (n : ℤ) : Type 0 where
  pub not_above : whole_ℚ n ≤ℚ x
  pub greatest : (m : ℤ) → whole_ℚ m ≤ℚ x → m ≤ℤ n

abbrev pub FloorIsGreatest : Type 0
FloorIsGreatest = (x : ℚ) → IsFloor x (floor_ℚ x)
