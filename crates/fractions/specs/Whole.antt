-- Whole numbers among the fractions.
use Rattle.std.specs.Prelude.{◌≡◌, ◌↔◌, ℤ, ◌+ℤ◌, ◌*ℤ◌, neg_ℤ, ◌≤ℤ◌, ◌<ℤ◌}
use Rattle.fractions.specs.Rational.{ℚ, frac, numerator, denominator, ◌+ℚ◌, ◌*ℚ◌, neg_ℚ, ◌≤ℚ◌, ◌<ℚ◌}

-- the whole number n as a fraction
abbrev pub whole_ℚ : ℤ → ℚ
whole_ℚ n = frac n 1

-- whole numbers keep their sums, products and order among the fractions, and are in lowest terms over 1
pub record WholeNumbers : Type 0 where
  pub sum : (a b : ℤ) → whole_ℚ (a +ℤ b) ≡ whole_ℚ a +ℚ whole_ℚ b
  pub product : (a b : ℤ) → whole_ℚ (a *ℤ b) ≡ whole_ℚ a *ℚ whole_ℚ b
  pub negative : (a : ℤ) → whole_ℚ (neg_ℤ a) ≡ neg_ℚ (whole_ℚ a)
  pub at_most : (a b : ℤ) → (whole_ℚ a ≤ℚ whole_ℚ b) ↔ (a ≤ℤ b)
  pub below : (a b : ℤ) → (whole_ℚ a <ℚ whole_ℚ b) ↔ (a <ℤ b)
  pub injective : (a b : ℤ) → whole_ℚ a ≡ whole_ℚ b → a ≡ b
  pub on_top : (a : ℤ) → numerator (whole_ℚ a) ≡ a
  pub beneath : (a : ℤ) → denominator (whole_ℚ a) ≡ 1
