-- A number that isn't whole lies strictly between its floor and the next whole number.
use Rattle.std.proofs.Common.{subst, arith, inl, inr}
use Rattle.std.specs.Prelude.{pos, ◌+ℤ◌, ◌≤ℤ◌, ℤ}
use Rattle.std.proofs.lemmas.Int.{ints}
use Rattle.fractions.specs.Rational.{ℚ, ◌<ℚ◌}
use Rattle.fractions.specs.Floor.{floor_ℚ}
use Rattle.fractions.specs.Whole.{whole_ℚ}
use Rattle.fractions.proofs.Floor.{floor_is_greatest}
use Rattle.fractions.proofs.Order.{lt_of_le_of_ne}
use Rattle.fractions.proofs.Tests.{le_or_lt}
use Rattle.optimality.specs.Optimal.{IsWhole}
use Rattle.opt_certificate.proofs.Multiples.{whole_number}

pub floor_below : (x : ℚ) → ¬ (IsWhole x) → whole_ℚ (floor_ℚ x) <ℚ x
floor_below x n = lt_of_le_of_ne _ _ (floor_is_greatest x).not_above (λ e. n (subst IsWhole e (whole_number (floor_ℚ x))))

never_less : (n : ℤ) → (n +ℤ pos 1) ≤ℤ n → ⊥
never_less n = grind (arith, ints)

pub next_above : (x : ℚ) → x <ℚ whole_ℚ (floor_ℚ x +ℤ pos 1)
next_above x = elim (le_or_lt (whole_ℚ (floor_ℚ x +ℤ pos 1)) x) [
  | inl h ↦ absurd (never_less (floor_ℚ x) ((floor_is_greatest x).greatest _ h))
  | inr h ↦ h
]
