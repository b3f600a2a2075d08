-- Whole numbers as fractions: sums, products and the order are those of whole numbers.
use Rattle.std.proofs.Common.{T, subst, ◌≡◌, ◌↔◌, refl, sym, ap, ◌∙◌, arith, ℤ, pos, neg_ℤ, ◌+ℤ◌, ◌-ℤ◌, ◌*ℤ◌, ◌<◌, ◌≤◌, ◌+◌, lit<}
use Rattle.std.specs.Prelude.{int_le, ◌≤ℤ◌, ◌<ℤ◌, nat_abs}
use Rattle.std.proofs.lemmas.Int.{ints}
use Rattle.std.proofs.Math.Nat.{eq-one_of_dvd-one}
use borrow.Author.Differences.{le_in, up, down, below_in, at_most_in}
use Rattle.fractions.specs.Rational.{numerator, denominator, ◌+ℚ◌, ◌*ℚ◌, ◌-ℚ◌, neg_ℚ, ◌≤ℚ◌, ◌<ℚ◌, zero_ℚ, one_ℚ, IsLowest, computed}
use Rattle.fractions.specs.Whole.{whole_ℚ, WholeNumbers}
use Rattle.fractions.proofs.Tests.{lt_iff}
use Rattle.fractions.proofs.Parts.{frac-lowest, lowest_in}
use Rattle.fractions.proofs.Gcd.{gcd_is}
use Rattle.fractions.proofs.School.{frac-le, frac-add, frac-mul, frac-neg}
use Rattle.fractions.proofs.Tests.{lt_iff}

one_pos : 0 < 1
one_pos = lit< tt

pub whole-zero : whole_ℚ (pos 0) ≡ zero_ℚ
unfolding computed
whole-zero = refl

pub whole-one : whole_ℚ (pos 1) ≡ one_ℚ
unfolding computed
whole-one = refl

pub whole-add : (a b : ℤ) → whole_ℚ (a +ℤ b) ≡ whole_ℚ a +ℚ whole_ℚ b
whole-add a b = sym (frac-add a b 1 1 one_pos one_pos ∙ ap whole_ℚ (omega (arith, ints)))

pub whole-mul : (a b : ℤ) → whole_ℚ (a *ℤ b) ≡ whole_ℚ a *ℚ whole_ℚ b
whole-mul a b = sym (frac-mul a b 1 1 one_pos one_pos)

pub whole-neg : (a : ℤ) → whole_ℚ (neg_ℤ a) ≡ neg_ℚ (whole_ℚ a)
whole-neg a = sym (frac-neg a 1 one_pos)

pub whole-sub : (a b : ℤ) → whole_ℚ (a -ℤ b) ≡ whole_ℚ a -ℚ whole_ℚ b
whole-sub a b = ap whole_ℚ (omega (arith, ints)) ∙ whole-add a (neg_ℤ b) ∙ ap (λ t. whole_ℚ a +ℚ t) (whole-neg b)

pub whole-le : (a b : ℤ) → (whole_ℚ a ≤ℚ whole_ℚ b) ↔ (a ≤ℤ b)
whole-le a b =
    let t = frac-le a b 1 1 one_pos one_pos in (
      λ h. at_most_in a b (let k : T (int_le (a *ℤ pos 1) (b *ℤ pos 1)) = subst T t h.at_most in omega (arith, ints)),
      λ h. record { at_most = subst T (sym t) (le_in (a *ℤ pos 1) (b *ℤ pos 1) (omega (arith, ints))) },
    )

pub whole-lt : (a b : ℤ) → (whole_ℚ a <ℚ whole_ℚ b) ↔ (a <ℤ b)
whole-lt a b = (
  λ h. above (λ k. (lt_iff _ _).0 h ((whole-le b a).1 k)),
  λ h. (lt_iff _ _).1 (λ k. not_above h ((whole-le b a).0 k)),
)
  where
    above : ¬ (b ≤ℤ a) → a <ℤ b
    above h =
        let n : ¬ (up b + down a ≤ up a + down b) = λ k. h (at_most_in b a k) in
        below_in a b (omega arith)

    not_above : a <ℤ b → b ≤ℤ a → ⊥
    not_above h k = omega (arith, ints)

-- ---- a whole number is in lowest terms over 1
whole_lowest : (a : ℤ) → IsLowest a 1
whole_lowest a = lowest_in a 1 one_pos (eq-one_of_dvd-one (gcd_is (nat_abs a) 1).1)

pub numerator-whole : (a : ℤ) → numerator (whole_ℚ a) ≡ a
numerator-whole a = (frac-lowest a 1 (whole_lowest a)).0

pub denominator-whole : (a : ℤ) → denominator (whole_ℚ a) ≡ 1
denominator-whole a = (frac-lowest a 1 (whole_lowest a)).1

pub whole_injective : (a b : ℤ) → whole_ℚ a ≡ whole_ℚ b → a ≡ b
whole_injective a b e = sym (numerator-whole a) ∙ ap numerator e ∙ numerator-whole b

pub whole_numbers : WholeNumbers
whole_numbers = record {
  sum = whole-add;
  product = whole-mul;
  negative = whole-neg;
  at_most = whole-le;
  below = whole-lt;
  injective = whole_injective;
  on_top = numerator-whole;
  beneath = denominator-whole;
}
