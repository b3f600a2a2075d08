-- A number times a power of ten, where that is narrow.
use Rattle.std.specs.Prelude.{◌≡◌, ℕ, Bool, Option, ℤ, MatchOption}
use Rattle.fractions.specs.Rational.{ℚ}
use Rattle.frac128.specs.Narrow.{IsNarrow}
use Rattle.frac128.specs.Numeral.{scaled}

-- the answer is n, or -n where the flag is set, times 10 to the exponent, or none where that is not narrow
abbrev pub IsScaled : Option ℚ → Bool → ℕ → ℤ → Type 0
IsScaled r negative n exponent = MatchOption r (¬ (IsNarrow (scaled negative n exponent))) (λ f. (f ≡ scaled negative n exponent) × IsNarrow f)
