-- Pairs of a numerator and a denominator, and the school rules on them, with no reduction.
use Rattle.std.specs.Prelude.{◌≡◌, ℕ, ◌+◌, ◌*◌, ◌/◌, ◌^◌, ◌<◌, ℤ, pos, negsuc, neg_ℤ, ◌+ℤ◌, ◌*ℤ◌, ◌<ℤ◌, unsigned_abs}
use Rattle.frac128.specs.Narrow.{IsNarrowWhole}
use Rattle.std.specs.Int.{◌∣◌, IsGcd, int_pow}

-- num / den
pub record Pair : Type 0 where
  pub num : ℤ
  pub den : ℕ

-- a / b and c / d are one number: a * d = c * b
abbrev pub IsSame : Pair → Pair → Type 0
IsSame x y = x.num *ℤ pos y.den ≡ y.num *ℤ pos x.den

-- a / b is below c / d: a * d < c * b
abbrev pub IsBelow : Pair → Pair → Type 0
IsBelow x y = (x.num *ℤ pos y.den) <ℤ (y.num *ℤ pos x.den)

-- (a c) / (b d)
abbrev pub product : Pair → Pair → Pair
product x y = record { num = x.num *ℤ y.num; den = x.den * y.den }

-- (a d + c b) / (b d)
abbrev pub sum : Pair → Pair → Pair
sum x y = record { num = x.num *ℤ pos y.den +ℤ y.num *ℤ pos x.den; den = x.den * y.den }

-- no number but 1 divides both
abbrev pub IsCoprime : ℕ → ℕ → Type 0
IsCoprime a b = (d : ℕ) → d ∣ a → d ∣ b → d ≡ 1

-- in lowest terms, with a denominator above 0
pub record IsReduced (x : Pair) : Type 0 where
  pub positive : 0 < x.den
  pub coprime : IsCoprime (unsigned_abs x.num) x.den

-- in lowest terms and narrow
pub record IsNarrowPair (x : Pair) : Type 0 where
  pub num : IsNarrowWhole x.num
  pub den : x.den < 2 ^ 127
  pub reduced : IsReduced x

-- the reduced pair of x is narrow
abbrev pub HasNarrow : Pair → Type 0
HasNarrow x = (f : Pair) × IsNarrowPair f × IsSame f x

-- n / d, with the sign moved into the numerator
abbrev pub quotient : ℤ → ℤ → Pair
quotient n (pos d) = record { num = n; den = d }
quotient n (negsuc d) = record { num = neg_ℤ n; den = d + 1 }

-- g is the greatest common divisor of the denominators, and a * (d / g), c * (b / g), their sum and the reduced sum are narrow
pub record IsNarrowPairSum (x y : Pair) (g : ℕ) : Type 0 where
  pub common : IsGcd x.den y.den g
  pub left : IsNarrowWhole (x.num *ℤ pos (y.den / g))
  pub right : IsNarrowWhole (y.num *ℤ pos (x.den / g))
  pub total : IsNarrowWhole (x.num *ℤ pos (y.den / g) +ℤ y.num *ℤ pos (x.den / g))
  pub lowest : HasNarrow (sum x y)

-- that, for some such g
abbrev pub HasNarrowSum : Pair → Pair → Type 0
HasNarrowSum x y = (g : ℕ) × IsNarrowPairSum x y g

-- d / n, with the sign moved into the numerator
abbrev pub turned_over : ℤ → ℕ → Pair
turned_over (pos n) d = record { num = pos d; den = n }
turned_over (negsuc n) d = record { num = neg_ℤ (pos d); den = n + 1 }

-- 1 / x, of an x that is not 0
abbrev pub reciprocal : Pair → Pair
reciprocal x = turned_over x.num x.den

-- x times itself, e times
abbrev pub power : Pair → ℕ → Pair
power x e = record { num = int_pow x.num e; den = x.den ^ e }
