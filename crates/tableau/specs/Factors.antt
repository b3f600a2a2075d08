-- Small whole numbers.
use Rattle.std.specs.Prelude.{◌≡◌, ◌<◌, ◌^◌, ℤ, pos, unsigned_abs}
use Rattle.fractions.specs.Rational.{ℚ, denominator, numerator}

-- the number is this whole number, which is below 2^20 in size
abbrev pub IsSmallWhole : ℚ → ℤ → Type 0
IsSmallWhole x n = (n ≡ numerator x) × (pos 1 ≡ pos (denominator x)) × (unsigned_abs n < 2 ^ 20) × (denominator x < 2 ^ 20)
