-- The floor is the greatest whole number that is not above a fraction, and the only one.
use Rattle.std.proofs.Common.{◌≡◌, suc, ◌↔◌, ℕ, ◌+◌, ◌<◌, ◌≤◌, sym, subst, arith, ℤ, pos, negsuc, ◌+ℤ◌, ◌*ℤ◌, T, lit<}
use Rattle.std.specs.Prelude.{◌≤ℤ◌, int_le}
use Rattle.std.proofs.lemmas.Int.{ints}
use Rattle.std.proofs.lemmas.Nat.{le-div}
use Rattle.std.proofs.Math.Nat.{div-mul-le_self, div-lt_iff_lt-mul}
use borrow.Author.Differences.{up, down, at_most_in, le_in}
use Rattle.fractions.specs.Rational.{ℚ, numerator, denominator, le_ℚ, ◌≤ℚ◌, ◌<ℚ◌}
use Rattle.fractions.specs.Whole.{whole_ℚ}
use Rattle.fractions.specs.Floor.{floor_ℚ, rounded_down, FloorIsGreatest}
use Rattle.fractions.proofs.Parts.{frac_self, den_pos}
use Rattle.fractions.proofs.School.{frac-le}
use Rattle.fractions.proofs.Tests.{lt_iff}
use Rattle.fractions.proofs.Order.{le_trans}
use Rattle.fractions.proofs.Whole.{whole-le}

-- n is at most x where n times the denominator is at most the numerator
pub whole-le_iff : (n : ℤ) (x : ℚ) → (whole_ℚ n ≤ℚ x) ↔ ((n *ℤ pos (denominator x)) ≤ℤ numerator x)
whole-le_iff n x =
    let t : le_ℚ (whole_ℚ n) x ≡ int_le (n *ℤ pos (denominator x)) (numerator x *ℤ pos 1) =
    subst (λ y. le_ℚ (whole_ℚ n) y ≡ int_le (n *ℤ pos (denominator x)) (numerator x *ℤ pos 1)) (frac_self x) (frac-le n (numerator x) 1 (denominator x) (lit< tt) (den_pos x)) in (
      λ h. let k : T (int_le (n *ℤ pos (denominator x)) (numerator x *ℤ pos 1)) = subst T t h.at_most in at_most_in (n *ℤ pos (denominator x)) (numerator x) (omega (arith, ints)),
      λ h. record { at_most = subst T (sym t) (le_in (n *ℤ pos (denominator x)) (numerator x *ℤ pos 1) (omega (arith, ints))) },
    )

rounded_below : (z : ℤ) (d : ℕ) → 0 < d → (rounded_down z d *ℤ pos d) ≤ℤ z
rounded_below (pos a) d h = omega (arith, ints, div-mul-le_self a d)
rounded_below (negsuc a) d h = omega (arith, ints)

rounded_greatest : (z m : ℤ) (d : ℕ) → 0 < d → (m *ℤ pos d) ≤ℤ z → m ≤ℤ rounded_down z d
rounded_greatest (pos a) (pos k) d h i = omega (arith, ints, le-div k a d h (omega (arith, ints)))
rounded_greatest (pos a) (negsuc k) d h i = omega (arith, ints)
rounded_greatest (negsuc a) (pos k) d h i = absurd (omega (arith, ints))
rounded_greatest (negsuc a) (negsuc k) d h i = omega (arith, ints, (div-lt_iff_lt-mul {x = a} {y = suc k} h).1 (omega (arith, ints)))

pub floor_is_greatest : FloorIsGreatest
unfolding floor_ℚ
floor_is_greatest x = record {
  not_above = (whole-le_iff _ x).1 (rounded_below (numerator x) (denominator x) (den_pos x));
  greatest = λ m h. rounded_greatest (numerator x) m (denominator x) (den_pos x) ((whole-le_iff m x).0 h);
}

-- the only one
pub floor_unique : (x : ℚ) (n : ℤ) → whole_ℚ n ≤ℚ x → x <ℚ whole_ℚ (n +ℤ pos 1) → n ≡ floor_ℚ x
floor_unique x n h i =
    let f = floor_is_greatest x in
    let low : n ≤ℤ floor_ℚ x = f.greatest n h in
    let high : ¬ ((n +ℤ pos 1) ≤ℤ floor_ℚ x) = λ k. (lt_iff _ _).0 i (le_trans _ _ _ ((whole-le (n +ℤ pos 1) (floor_ℚ x)).1 k) f.not_above) in
    between n (floor_ℚ x) low high
  where
    between : (n m : ℤ) → n ≤ℤ m → ¬ ((n +ℤ pos 1) ≤ℤ m) → n ≡ m
    between n m l h =
        let k : ¬ (up (n +ℤ pos 1) + down m ≤ up m + down (n +ℤ pos 1)) = λ i. h (at_most_in (n +ℤ pos 1) m i) in
        omega (arith, ints)
