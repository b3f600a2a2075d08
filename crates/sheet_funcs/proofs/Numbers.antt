-- Whole numbers, narrow ones, and those other than 0.
use Rattle.std.proofs.Common.{◌≡◌, ◌≢◌, ◌⊎◌, inl, inr, sym, ap, ◌∙◌, subst, arith, ℕ, ℤ, pos, negsuc}
use Rattle.std.proofs.Math.Nat.{div-le_self}
use Rattle.fractions.specs.Rational.{ℚ, numerator, denominator, zero_ℚ, ◌*ℚ◌, ◌/ℚ◌}
use Rattle.fractions.specs.Whole.{whole_ℚ}
use Rattle.fractions.specs.Floor.{floor_ℚ, rounded_down}
use Rattle.fractions.proofs.Whole.{whole-zero, whole-one, whole_injective}
use Rattle.fractions.proofs.Powers.{inv-one}
use Rattle.fractions.proofs.Laws.{mul-one}
use Rattle.frac128.specs.Narrow.{IsNarrow, IsNarrowWhole}
use Rattle.frac128.proofs.NarrowLaws.{narrow-whole}

-- over 1
pub over-one : (n : ℤ) → whole_ℚ n /ℚ whole_ℚ (pos 1) ≡ whole_ℚ n
over-one n = ap (λ x. whole_ℚ n /ℚ x) whole-one ∙ ap (λ x. whole_ℚ n *ℚ x) inv-one ∙ mul-one (whole_ℚ n)

pub narrow_over_one : (n : ℤ) → IsNarrowWhole n → IsNarrow (whole_ℚ n /ℚ whole_ℚ (pos 1))
narrow_over_one n h = subst IsNarrow (sym (over-one n)) ((narrow-whole n).0 h)

-- a whole number other than 0
pub whole-ne-zero : (n : ℤ) → n ≢ pos 0 → whole_ℚ n ≢ zero_ℚ
whole-ne-zero n h e = h (whole_injective n (pos 0) (e ∙ sym whole-zero))

-- rounding down keeps a number narrow
narrow_down : (n : ℤ) (d : ℕ) → IsNarrowWhole n → IsNarrowWhole (rounded_down n d)
narrow_down (pos n) d h = omega (arith, div-le_self n d)
narrow_down (negsuc n) d h = omega (arith, div-le_self n d)

pub narrow_floor : (x : ℚ) → IsNarrow x → IsNarrowWhole (floor_ℚ x)
unfolding floor_ℚ
narrow_floor x h = narrow_down (numerator x) (denominator x) h.num

-- what is refused over 1 is not narrow
pub not_over_one : (n m : ℤ) → m ≡ n → IsNarrowWhole n → (pos 1 ≡ pos 0) ⊎ ¬ (IsNarrow (whole_ℚ m /ℚ whole_ℚ (pos 1))) → ⊥
not_over_one n m e h (inl one) = cc
not_over_one n m e h (inr wide) = wide (narrow_over_one m (subst IsNarrowWhole (sym e) h))
