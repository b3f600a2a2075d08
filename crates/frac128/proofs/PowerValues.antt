-- The powers of pairs are those of their values.
use Rattle.std.proofs.Common.{◌≡◌, ◌≢◌, ◌↔◌, ◌⊎◌, ⊎_elim, ℕ, zero, suc, ◌*◌, ◌%◌, ◌<◌, ◌^◌, sym, ap, ap₂, ◌∙◌, subst, arith, true, false, ℤ, pos, negsuc, neg_ℤ, ◌*ℤ◌}
use Rattle.std.proofs.lemmas.Int.{ints}
use Rattle.std.proofs.Math.Nat.{pow-suc, pow-zero, one-le-pow}
use Rattle.std.specs.Int.{int_pow}
use Rattle.fractions.specs.Rational.{ℚ, frac, ◌*ℚ◌, zero_ℚ, inv_ℚ}
use Rattle.fractions.specs.Power.{repeated, power_ℚ}
use Rattle.fractions.proofs.School.{frac-mul}
use Rattle.fractions.proofs.Powers.{inv-repeated}
use Rattle.std.specs.Prelude.{Result, MatchResult, int_lt, unsigned_abs, ◌<ℤ◌}
use Rattle.fractions.proofs.Whole.{whole-one}
use Rattle.frac128.specs.Narrow.{IsNarrow}
use Rattle.frac128.specs.Pairs.{Pair, IsReduced, IsNarrowPair, power}
use Rattle.frac128.specs.Values.{value}
use Rattle.frac128.proofs.Values.{narrow_value, narrow_back}
use Rattle.frac128.proofs.Powers.{reduced-power}

parity : (e : ℕ) → ((e % 2 ≡ 0) × (suc e % 2 ≡ 1)) ⊎ ((e % 2 ≡ 1) × (suc e % 2 ≡ 0))
parity e = grind arith

both_negative : (a p : ℕ) → pos (p * suc a) ≡ negsuc a *ℤ neg_ℤ (pos p)
both_negative a zero = omega (arith, ints)
both_negative a (suc p) = ap pos (omega arith)

int_pow-suc : (z : ℤ) (e : ℕ) → int_pow z (suc e) ≡ z *ℤ int_pow z e
int_pow-suc (pos a) e = ap pos (pow-suc a e ∙ omega arith)
int_pow-suc (negsuc a) e = ⊎_elim (λ p. even p.0 p.1) (λ p. odd p.0 p.1) (parity e)
  where
    size : suc a ^ suc e ≡ suc a ^ e * suc a
    size = pow-suc (suc a) e

    even : e % 2 ≡ 0 → suc e % 2 ≡ 1 → int_pow (negsuc a) (suc e) ≡ negsuc a *ℤ int_pow (negsuc a) e
    even p q = rw (p, q) (ap (λ n. neg_ℤ (pos n)) (size ∙ omega arith))

    odd : e % 2 ≡ 1 → suc e % 2 ≡ 0 → int_pow (negsuc a) (suc e) ≡ negsuc a *ℤ int_pow (negsuc a) e
    odd p q = rw (p, q) (ap pos size ∙ both_negative a (suc a ^ e))

int_pow-zero : (z : ℤ) → int_pow z 0 ≡ pos 1
int_pow-zero (pos a) = ap pos (pow-zero a)
int_pow-zero (negsuc a) = ap pos (pow-zero (suc a))

pub power_value : (x : Pair) (k : ℕ) → 0 < x.den → value (power x k) ≡ repeated (value x) k
power_value x zero h = ap₂ frac (int_pow-zero x.num) (pow-zero x.den) ∙ whole-one
power_value x (suc k) h =
    ap₂ frac (int_pow-suc x.num k) (pow-suc x.den k ∙ omega arith) ∙ sym (frac-mul x.num (int_pow x.num k) x.den (x.den ^ k) h (one-le-pow k x.den h)) ∙ ap (λ t. value x *ℚ t) (power_value x k h)

pub narrow_power : (x : Pair) (k : ℕ) → IsReduced x → IsNarrowPair (power x k) ↔ IsNarrow (repeated (value x) k)
narrow_power x k h =
    subst (λ y. IsNarrowPair (power x k) ↔ IsNarrow y) (power_value x k h.positive)
    (λ n. narrow_value (power x k) n, λ n. narrow_back (power x k) (reduced-power x k h) n)

-- ---- by the sign of the exponent
power_below : (x : ℚ) (e : ℤ) (n : ℕ) → int_lt e (pos 0) ≡ true → n ≡ unsigned_abs e → (e <ℤ pos 0 → x ≢ zero_ℚ) → repeated (inv_ℚ x) n ≡ power_ℚ x e
unfolding power_ℚ
power_below x (pos k) n t s h = absurd (omega (arith, ints))
power_below x (negsuc k) n t s h = ap (repeated (inv_ℚ x)) s ∙ sym (inv-repeated x (suc k) (h (omega (arith, ints))))

pub power_above : (x : ℚ) (e : ℤ) (n : ℕ) → int_lt e (pos 0) ≡ false → n ≡ unsigned_abs e → repeated x n ≡ power_ℚ x e
unfolding power_ℚ
power_above x (pos k) n t s = ap (repeated x) s
power_above x (negsuc k) n t s = absurd (omega (arith, ints))

-- what a call of `repeated` answers, said of the power
pub turned_power : {E : Type 0} (r : Result ℚ E) (x y : ℚ) (e : ℤ) (n : ℕ)
    → MatchResult r (λ f. (f ≡ repeated y n) × IsNarrow (repeated y n)) (λ _. ¬ (IsNarrow (repeated y n))) → y ≡ inv_ℚ x
    → int_lt e (pos 0) ≡ true → n ≡ unsigned_abs e → (e <ℤ pos 0 → x ≢ zero_ℚ)
    → MatchResult r (λ f. (f ≡ power_ℚ x e) × IsNarrow (power_ℚ x e)) (λ _. ¬ (IsNarrow (power_ℚ x e)))
turned_power r x y e n m i t s h =
    subst (λ z. MatchResult r (λ f. (f ≡ z) × IsNarrow z) (λ _. ¬ (IsNarrow z))) (ap (λ z. repeated z n) i ∙ power_below x e n t s h) m
