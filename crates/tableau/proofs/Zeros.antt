-- Where a row or what comes in is 0, a pivot changes nothing, and the numbers that it would make are narrow.
use Rattle.std.proofs.Common.{◌≡◌, ◌≢◌, ℕ, ◌<◌, ◌/◌, refl, sym, ap, ap₂, ◌∙◌, subst, List, length, arith, Bool, true, false, eqb, ℤ, pos, ◌+ℤ◌, ◌*ℤ◌, lit<}
use Rattle.std.specs.Prelude.{if◌then◌else◌}
use Rattle.std.proofs.lemmas.Bool.{eqb-true, eqb-false}
use Rattle.std.proofs.lemmas.List.{ext_get_or}
use Rattle.std.proofs.lemmas.Int.{ints}
use Rattle.std.proofs.lemmas.Nat.Gcd.{same_from_IsGcd, dvd_refl, dvd_of_mod-eq-zero}
use Rattle.fractions.specs.Gcd.{gcd}
use Rattle.fractions.specs.Rational.{ℚ, ◌+ℚ◌, ◌*ℚ◌, ◌/ℚ◌, inv_ℚ, neg_ℚ, zero_ℚ, one_ℚ, numerator, denominator}
use Rattle.fractions.specs.Vectors.{at, times, without, only}
use Rattle.fractions.proofs.Laws.{add-zero, zero-add, mul-zero, zero-mul, neg-zero}
use Rattle.fractions.proofs.Gcd.{gcd_is}
use Rattle.fractions.proofs.Powers.{inv-ne-zero}
use Rattle.fractions.proofs.Whole.{whole-zero, numerator-whole, denominator-whole}
use Rattle.frac128.specs.Narrow.{IsNarrowWhole, IsNarrow, IsNarrowSum}
use Rattle.frac128.proofs.NarrowLaws.{narrow-zero}
use Rattle.linear_programs.proofs.Vectors.{at-plus, at-times, at-without_same, at-without_other, at-only_same}
use Rattle.dictionaries.specs.Dictionary.{solved_row, substituted}
use Rattle.dictionaries.specs.Narrow.{IsNarrowQuotient, IsNarrowStep, IsNarrowSubstituted, IsNarrowAt, dividend}
use Rattle.dictionaries.proofs.Keeps.{length-substituted}

-- ---- narrow sums and quotients with 0
gcd-one : (d : ℕ) → gcd d 1 ≡ 1
gcd-one d = same_from_IsGcd d 1 _ _ (gcd_is d 1) (dvd_of_mod-eq-zero 1 (omega arith), dvd_refl 1, λ e p q. q)

numerator-zero : numerator zero_ℚ ≡ pos 0
numerator-zero = ap numerator (sym whole-zero) ∙ numerator-whole (pos 0)

denominator-zero : denominator zero_ℚ ≡ 1
denominator-zero = ap denominator (sym whole-zero) ∙ denominator-whole (pos 0)

times_one : (n : ℤ) → n *ℤ pos 1 ≡ n
times_one n = grind (arith, ints)

zero_times : (n : ℤ) → pos 0 *ℤ n ≡ pos 0
zero_times n = grind (arith, ints)

plus_zero : (n : ℤ) → n +ℤ pos 0 ≡ n
plus_zero n = grind (arith, ints)

sum_with_zero : (x z : ℚ) → numerator z ≡ pos 0 → denominator z ≡ 1 → gcd (denominator x) (denominator z) ≡ 1 → IsNarrow x → IsNarrow (x +ℚ z) → IsNarrowSum x z
sum_with_zero x z n d g h t =
    let a : numerator x *ℤ pos (denominator z / gcd (denominator x) (denominator z)) ≡ numerator x =
    ap₂ (λ u v. numerator x *ℤ pos (u / v)) d g ∙ times_one (numerator x) in
    let b : numerator z *ℤ pos (denominator x / gcd (denominator x) (denominator z)) ≡ pos 0 =
    ap (λ u. u *ℤ pos (denominator x / gcd (denominator x) (denominator z))) n ∙ zero_times (pos (denominator x / gcd (denominator x) (denominator z))) in
    record {
      left = subst IsNarrowWhole (sym a) h.num;
      right = subst IsNarrowWhole (sym b) (lit< tt);
      total = subst IsNarrowWhole (sym (ap₂ ◌+ℤ◌ a b ∙ plus_zero (numerator x))) h.num;
      lowest = t;
    }

pub narrow_sum-zero : (x : ℚ) → IsNarrow x → IsNarrowSum x zero_ℚ
narrow_sum-zero x h =
    sum_with_zero x zero_ℚ numerator-zero denominator-zero (ap (gcd (denominator x)) denominator-zero ∙ gcd-one (denominator x)) h (subst IsNarrow (sym (add-zero x)) h)

narrow_step_zero : (a b c : ℚ) → IsNarrow a → b *ℚ c ≡ zero_ℚ → IsNarrowStep a b c
unfolding IsNarrowStep
narrow_step_zero a b c h e = (subst IsNarrow (sym e) narrow-zero, subst (IsNarrowSum a) (sym e) (narrow_sum-zero a h))

-- where the number that comes in is 0
pub narrow_there : (row : List ℚ) (k : ℕ) (by : List ℚ) (j : ℕ) → IsNarrow (at (without row k) j) → at by j ≡ zero_ℚ → IsNarrowAt row k by j
narrow_there row k by j h e = narrow_step_zero _ _ _ h (ap (λ t. at row k *ℚ t) e ∙ mul-zero _)

-- where the row has no entry in the entering column
pub narrow_row : (row : List ℚ) (k : ℕ) (by : List ℚ) → at row k ≡ zero_ℚ → ((j : ℕ) → j < length row → IsNarrow (at row j)) → IsNarrowSubstituted row k by
narrow_row row k by e h j l = narrow_step_zero _ _ _ (cases (eqb j k) refl) (ap (λ t. t *ℚ at by j) e ∙ zero-mul _)
  where
    cases : (b : Bool) → eqb j k ≡ b → IsNarrow (at (without row k) j)
    cases true q = subst IsNarrow (sym (ap (at (without row k)) (eqb-true j k q) ∙ at-without_same row k)) narrow-zero
    cases false q = subst IsNarrow (sym (at-without_other row k j (eqb-false j k q))) (h j l)

-- ---- the solved row
zero_over : (p : ℚ) → zero_ℚ /ℚ p ≡ zero_ℚ
zero_over p = zero-mul (inv_ℚ p)

narrow_zero_over : (a p : ℚ) → a ≡ zero_ℚ → IsNarrowQuotient a p
unfolding IsNarrowQuotient
narrow_zero_over a p e = subst IsNarrow (sym (ap (λ t. t /ℚ p) e ∙ zero_over p)) narrow-zero

pub dividend_zero : (row : List ℚ) (k j : ℕ) → eqb j k ≡ false → at row j ≡ zero_ℚ → dividend row k j ≡ zero_ℚ
dividend_zero row k j n e = ap (λ b. if b then one_ℚ else neg_ℚ (at row j)) n ∙ ap neg_ℚ e ∙ neg-zero

pub solved_zero : (row : List ℚ) (k j : ℕ) (z : ℚ) → z ≡ zero_ℚ → eqb j k ≡ false → at row j ≡ zero_ℚ
    → (z ≡ dividend row k j /ℚ at row k) × IsNarrowQuotient (dividend row k j) (at row k)
solved_zero row k j z i n e =
    let d = dividend_zero row k j n e in
    (i ∙ sym (ap (λ t. t /ℚ at row k) d ∙ zero_over (at row k)), narrow_zero_over (dividend row k j) (at row k) d)

-- ---- the numbers that stay
pub at-substituted : (row : List ℚ) (k : ℕ) (by : List ℚ) (j : ℕ) → at (substituted row k by) j ≡ at (without row k) j +ℚ at row k *ℚ at by j
at-substituted row k by j = at-plus (without row k) (times (at row k) by) j ∙ ap (λ t. at (without row k) j +ℚ t) (at-times (at row k) by j)

pub stays : (row : List ℚ) (k : ℕ) (by : List ℚ) (j : ℕ) → at row k *ℚ at by j ≡ zero_ℚ → j ≢ k → at (substituted row k by) j ≡ at row j
stays row k by j e n = at-substituted row k by j ∙ ap₂ ◌+ℚ◌ (at-without_other row k j n) e ∙ add-zero _

-- a row without an entry in the entering column stays
pub row_stays : (row : List ℚ) (k : ℕ) (by : List ℚ) → length by ≡ length row → at row k ≡ zero_ℚ → row ≡ substituted row k by
row_stays row k by e z =
    ext_get_or zero_ℚ row (substituted row k by) (sym (length-substituted row k by e)) (λ j l. sym (cases j (eqb j k) refl))
  where
    product : (j : ℕ) → at row k *ℚ at by j ≡ zero_ℚ
    product j = ap (λ t. t *ℚ at by j) z ∙ zero-mul _

    cases : (j : ℕ) (b : Bool) → eqb j k ≡ b → at (substituted row k by) j ≡ at row j
    cases j true q =
        let i : j ≡ k = eqb-true j k q in
        at-substituted row k by j ∙ ap₂ ◌+ℚ◌ (ap (at (without row k)) i ∙ at-without_same row k) (product j) ∙ add-zero _ ∙ sym (ap (at row) i ∙ z)
    cases j false q = stays row k by j (product j) (eqb-false j k q)

-- the solved row has an entry where the leaving one had
pub solved_entry : (row out : List ℚ) (k : ℕ) → at row k ≢ zero_ℚ → out ≡ solved_row row k → at out k ≢ zero_ℚ
solved_entry row out k n o e = inv-ne-zero (at row k) n (sym (ap (λ l. at l k) o ∙ value) ∙ e)
  where
    value : at (solved_row row k) k ≡ inv_ℚ (at row k)
    value =
        at-plus (times (neg_ℚ (inv_ℚ (at row k))) (without row k)) (only k (inv_ℚ (at row k))) k
        ∙ ap₂ ◌+ℚ◌ (at-times (neg_ℚ (inv_ℚ (at row k))) (without row k) k ∙ ap (λ t. neg_ℚ (inv_ℚ (at row k)) *ℚ t) (at-without_same row k) ∙ mul-zero _) (at-only_same k (inv_ℚ (at row k)))
        ∙ zero-add _
