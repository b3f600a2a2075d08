-- What callers cite of narrow numbers: the tests, and which numbers are narrow without one.
use Rattle.std.proofs.Common.{◌≡◌, ◌≢◌, ◌↔◌, ◌⊎◌, inl, inr, ℕ, ◌/◌, ◌<◌, ◌^◌, refl, sym, ap, ◌∙◌, subst, lit<, arith, Bool, true, false, ltb, ◌&&◌, ℤ, pos, negsuc, ◌+ℤ◌, ◌*ℤ◌}
use Rattle.std.specs.Prelude.{IsTrue}
use Rattle.std.proofs.lemmas.Int.{ints}
use Rattle.std.proofs.lemmas.Bool.{lt-ltb, ltb-true}
use lib.IntN.{+ℤ_comm}
use Rattle.fractions.specs.Gcd.{gcd}
use Rattle.fractions.specs.Rational.{ℚ, numerator, denominator, zero_ℚ, one_ℚ, ◌+ℚ◌, neg_ℚ, inv_ℚ}
use Rattle.fractions.specs.Whole.{whole_ℚ}
use Rattle.fractions.proofs.Laws.{add_comm}
use Rattle.fractions.proofs.Order.{and_iff}
use Rattle.fractions.proofs.Whole.{whole-zero, whole-one, numerator-whole, denominator-whole}
use Rattle.std.specs.Ordering.{int_eq}
use Rattle.std.proofs.Common.{eqb, add-one}
use Rattle.std.proofs.lemmas.Bool.{eq-eqb, eqb-true}
use Rattle.std.proofs.lemmas.Nat.Gcd.{same_from_IsGcd}
use Rattle.fractions.proofs.Gcd.{gcd_is}
use Rattle.fractions.proofs.Parts.{same_ℚ, frac_self}
use Rattle.frac128.specs.Pairs.{Pair, IsNarrowPair, reciprocal}
use Rattle.frac128.specs.Values.{pair_of}
use Rattle.frac128.proofs.Lowest.{narrow-neg}
use Rattle.frac128.proofs.Powers.{narrow_reciprocal}
use Rattle.frac128.proofs.Readings.{narrow_over_one}
use Rattle.frac128.proofs.OverOne.{narrow_sum_over_one}
use Rattle.frac128.proofs.Values.{narrow_sum, narrow_value, neg_value, reduced_pair, not_zero, reciprocal_value}
use Rattle.frac128.specs.Narrow.{IsNarrowWhole, IsNarrow, IsNarrowSum, is_narrow_whole, is_narrow, is_narrow_sum, NarrowTests}

whole_test : (n : ℤ) → IsTrue (is_narrow_whole n) ↔ IsNarrowWhole n
whole_test n = (λ e. ltb-true _ _ e, λ h. lt-ltb _ _ h)

pub narrow_test : (x : ℚ) → IsTrue (is_narrow x) ↔ IsNarrow x
unfolding is_narrow
narrow_test x =
    let a = and_iff (is_narrow_whole (numerator x)) (ltb (denominator x) (2 ^ 127)) in (
      λ e. record { num = ltb-true _ _ (a.0 e).0; den = ltb-true _ _ (a.0 e).1 },
      λ h. a.1 (lt-ltb _ _ h.num, lt-ltb _ _ h.den),
    )

pub narrow_sum_test : (x y : ℚ) → IsTrue (is_narrow_sum x y) ↔ IsNarrowSum x y
unfolding is_narrow_sum
narrow_sum_test x y =
    let l = numerator x *ℤ pos (denominator y / gcd (denominator x) (denominator y)) in
    let r = numerator y *ℤ pos (denominator x / gcd (denominator x) (denominator y)) in
    let all = and_iff (is_narrow_whole l && is_narrow_whole r) (is_narrow_whole (l +ℤ r) && is_narrow (x +ℚ y)) in
    let terms = and_iff (is_narrow_whole l) (is_narrow_whole r) in
    let sums = and_iff (is_narrow_whole (l +ℤ r)) (is_narrow (x +ℚ y)) in (
      λ e. record {
        left = (whole_test l).0 (terms.0 (all.0 e).0).0;
        right = (whole_test r).0 (terms.0 (all.0 e).0).1;
        total = (whole_test (l +ℤ r)).0 (sums.0 (all.0 e).1).0;
        lowest = (narrow_test (x +ℚ y)).0 (sums.0 (all.0 e).1).1;
      },
      λ h. all.1 (
        terms.1 ((whole_test l).1 h.left, (whole_test r).1 h.right),
        sums.1 ((whole_test (l +ℤ r)).1 h.total, (narrow_test (x +ℚ y)).1 h.lowest),
      ),
    )

pub narrow_tests : NarrowTests
narrow_tests = record { number = narrow_test; sum = narrow_sum_test }

-- ---- a number is narrow or not
decided : (b : Bool) (P : Type 0) → IsTrue b ↔ P → P ⊎ ¬ P
decided true P i = inl (i.0 refl)
decided false P i = inr (λ p. let e : IsTrue false = i.1 p in cc)

pub narrow_or_not : (x : ℚ) → IsNarrow x ⊎ ¬ (IsNarrow x)
narrow_or_not x = decided (is_narrow x) (IsNarrow x) (narrow_test x)

pub narrow_sum_or_not : (x y : ℚ) → IsNarrowSum x y ⊎ ¬ (IsNarrowSum x y)
narrow_sum_or_not x y = decided (is_narrow_sum x y) (IsNarrowSum x y) (narrow_sum_test x y)

-- ---- whole numbers
pub narrow-whole : (n : ℤ) → IsNarrowWhole n ↔ IsNarrow (whole_ℚ n)
narrow-whole n = (
  λ h. record { num = subst IsNarrowWhole (sym (numerator-whole n)) h; den = subst (λ d. d < 2 ^ 127) (sym (denominator-whole n)) (lit< tt) },
  λ h. subst IsNarrowWhole (numerator-whole n) h.num,
)

pub narrow-zero : IsNarrow zero_ℚ
narrow-zero = subst IsNarrow whole-zero ((narrow-whole (pos 0)).0 (lit< tt))

pub narrow-one : IsNarrow one_ℚ
narrow-one = subst IsNarrow whole-one ((narrow-whole (pos 1)).0 (lit< tt))

pub narrow_sum-wholes : (a b : ℤ) → IsNarrowWhole a → IsNarrowWhole b → IsNarrowWhole (a +ℤ b) ↔ IsNarrowSum (whole_ℚ a) (whole_ℚ b)
narrow_sum-wholes a b h i =
    let x : Pair = record { num = a; den = 1 } in
    let y : Pair = record { num = b; den = 1 } in
    let pairs = narrow_sum_over_one x y (narrow_over_one a h) (narrow_over_one b i) refl refl in
    let values = narrow_sum x y (narrow_over_one a h) (narrow_over_one b i) in
    (λ n. values.0 (pairs.0 n), λ n. pairs.1 (values.1 n))

-- ---- what keeps a number narrow
narrow_pair : (x : ℚ) → IsNarrow x → IsNarrowPair (pair_of x)
narrow_pair x h = record { num = h.num; den = h.den; reduced = reduced_pair x }

pub narrow_neg : (x : ℚ) → IsNarrow x → IsNarrow (neg_ℚ x)
narrow_neg x h =
    let p = narrow_pair x h in
    subst IsNarrow (neg_value (pair_of x) p ∙ ap neg_ℚ (frac_self x)) (narrow_value _ (narrow-neg (numerator x) (denominator x) p))

pub narrow_inv : (x : ℚ) → x ≢ zero_ℚ → IsNarrow x → IsNarrow (inv_ℚ x)
narrow_inv x n h =
    let p = narrow_pair x h in
    let z = not_zero (pair_of x) p (λ e. n (sym (frac_self x) ∙ e)) in
    subst IsNarrow (reciprocal_value (pair_of x) p z ∙ ap inv_ℚ (frac_self x)) (narrow_value _ (turned (numerator x) (denominator x) z p))
  where
    turned : (m : ℤ) (d : ℕ) → m ≢ pos 0 → IsNarrowPair (record { num = m; den = d }) → IsNarrowPair (reciprocal (record { num = m; den = d }))
    turned (pos k) d e q = narrow_reciprocal (pos k) d false e q
    turned (negsuc k) d e q = rw add-one (narrow_reciprocal (negsuc k) d true e q)

pub narrow_sum_comm : (x y : ℚ) → IsNarrowSum x y → IsNarrowSum y x
narrow_sum_comm x y h =
    let g = gcd_is (denominator x) (denominator y) in
    let e : gcd (denominator x) (denominator y) ≡ gcd (denominator y) (denominator x) =
    same_from_IsGcd (denominator y) (denominator x) _ _ (g.1, g.0, λ d p q. g.2 d q p) (gcd_is (denominator y) (denominator x)) in
    record {
      left = subst (λ k. IsNarrowWhole (numerator y *ℤ pos (denominator x / k))) e h.right;
      right = subst (λ k. IsNarrowWhole (numerator x *ℤ pos (denominator y / k))) e h.left;
      total = subst IsNarrowWhole (ap (λ k. numerator x *ℤ pos (denominator y / k) +ℤ numerator y *ℤ pos (denominator x / k)) e ∙ +ℤ_comm (numerator x *ℤ pos (denominator y / gcd (denominator y) (denominator x))) (numerator y *ℤ pos (denominator x / gcd (denominator y) (denominator x)))) h.total;
      lowest = subst IsNarrow (add_comm x y) h.lowest;
    }

-- ---- what `==` tells
pub same_if_equal : (x y : ℚ) → IsTrue (int_eq (numerator x) (numerator y) && eqb (denominator x) (denominator y)) ↔ (x ≡ y)
same_if_equal x y =
    let a = and_iff (int_eq (numerator x) (numerator y)) (eqb (denominator x) (denominator y)) in (
      λ e. same_ℚ x y (grind (arith, ints, (a.0 e).0)) (eqb-true _ _ (a.0 e).1),
      λ e. a.1 (grind (arith, ints, ap numerator e), eq-eqb _ _ (ap denominator e)),
    )
