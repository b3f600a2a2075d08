-- Tests of numbers.
use Rattle.std.specs.Prelude.{Bool, not, ◌&&◌, ◌==◌, if◌then◌else◌, pos, negsuc, int_le}
use Rattle.std.specs.declared.cmp.Ordering.{Ordering}
use Rattle.std.specs.declared.cmp.Ordering.TheVariants.{Less, Equal, Greater}
use Rattle.fractions.specs.Rational.{ℚ, zero_ℚ, numerator, denominator, le_ℚ}

abbrev pub is_zero : ℚ → Bool
is_zero x = le_ℚ x zero_ℚ && le_ℚ zero_ℚ x

abbrev pub is_negative : ℚ → Bool
is_negative x = not (le_ℚ zero_ℚ x)

-- whether a number is whole and from -1000 to 1000
abbrev pub is_exponent : ℚ → Bool
is_exponent x = (denominator x == 1) && (int_le (negsuc 999) (numerator x) && int_le (numerator x) (pos 1000))

-- the order of two numbers
abbrev pub number_cmp : ℚ → ℚ → Ordering
number_cmp x y = if le_ℚ x y then (if le_ℚ y x then Equal else Less) else Greater
