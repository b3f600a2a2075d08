-- Which fractions fit two numbers of 128 bits, and which sums are found on the way through such numbers alone.
use Rattle.std.specs.Prelude.{◌↔◌, ℕ, Bool, IsTrue, ltb, ◌&&◌, ◌/◌, ◌^◌, ◌<◌, ℤ, pos, ◌+ℤ◌, ◌*ℤ◌, unsigned_abs}
use Rattle.std.specs.Int.{IsGcd}
use Rattle.fractions.specs.Gcd.{gcd}
use Rattle.fractions.specs.Rational.{ℚ, numerator, denominator, ◌+ℚ◌}

-- a whole number from -(2 ^ 127 - 1) to 2 ^ 127 - 1
abbrev pub IsNarrowWhole : ℤ → Type 0
IsNarrowWhole n = unsigned_abs n < 2 ^ 127

-- in lowest terms, the numerator is narrow and the denominator is at most 2 ^ 127 - 1
pub record IsNarrow (x : ℚ) : Type 0 where
  pub num : IsNarrowWhole (numerator x)
  pub den : denominator x < 2 ^ 127

-- of a / b and c / d in lowest terms, with the greatest common divisor g of b and d: a * (d / g), c * (b / g), the sum of these two and the reduced sum are narrow
pub record IsNarrowSum (x y : ℚ) : Type 0 where
  pub left : IsNarrowWhole (numerator x *ℤ pos (denominator y / gcd (denominator x) (denominator y)))
  pub right : IsNarrowWhole (numerator y *ℤ pos (denominator x / gcd (denominator x) (denominator y)))
  pub total : IsNarrowWhole (numerator x *ℤ pos (denominator y / gcd (denominator x) (denominator y)) +ℤ numerator y *ℤ pos (denominator x / gcd (denominator x) (denominator y)))
  pub lowest : IsNarrow (x +ℚ y)

-- the divisor in that rule is the greatest that both denominators have
abbrev pub DivisorIsGreatest : Type 0
DivisorIsGreatest = (a b : ℕ) → IsGcd a b (gcd a b)

-- ---- the same as tests, for definitions that compute
abbrev pub is_narrow_whole : ℤ → Bool
is_narrow_whole n = ltb (unsigned_abs n) (2 ^ 127)

-- the test of IsNarrow
unfoldable pub is_narrow : ℚ → Bool
is_narrow x = is_narrow_whole (numerator x) && ltb (denominator x) (2 ^ 127)

-- the test of IsNarrowSum
unfoldable pub is_narrow_sum : ℚ → ℚ → Bool
is_narrow_sum x y =
    let g = gcd (denominator x) (denominator y) in
    let left = numerator x *ℤ pos (denominator y / g) in
    let right = numerator y *ℤ pos (denominator x / g) in
    (is_narrow_whole left && is_narrow_whole right) && (is_narrow_whole (left +ℤ right) && is_narrow (x +ℚ y))

-- each test holds exactly where its fact does
pub record NarrowTests : Type 0 where
  pub number : (x : ℚ) → IsTrue (is_narrow x) ↔ IsNarrow x
  pub sum : (x y : ℚ) → IsTrue (is_narrow_sum x y) ↔ IsNarrowSum x y
