-- A whole number times a power of ten.
use Rattle.std.proofs.Common.{◌≡◌, ◌≢◌, ℕ, zero, suc, ◌*◌, ◌^◌, ◌<◌, Bool, true, false, refl, sym, ap, ap₂, ◌∙◌, arith, ℤ, pos, neg_ℤ, ◌+ℤ◌, ◌*ℤ◌}
use Rattle.std.specs.Prelude.{unsigned_abs}
use Rattle.std.proofs.lemmas.Int.{ints}
use Rattle.std.proofs.Math.Nat.{pow-suc, zero-mul as zero-mul_ℕ}
use Rattle.fractions.specs.Power.{power_ℚ, repeated}
use Rattle.fractions.specs.Rational.{frac, ◌*ℚ◌, ◌/ℚ◌, inv_ℚ, zero_ℚ}
use Rattle.fractions.specs.Whole.{whole_ℚ}
use Rattle.fractions.proofs.Field.{school_rules}
use Rattle.fractions.proofs.Laws.{mul_assoc, one-mul, zero-mul}
use Rattle.fractions.proofs.Powers.{power_rules}
use Rattle.fractions.proofs.School.{frac-mul}
use Rattle.fractions.proofs.Whole.{whole-one, whole-zero, whole-mul, whole_injective}
use Rattle.frac128.specs.Signed.{signed}
use Rattle.frac128.specs.Numeral.{scaled}

ten-ne-zero : whole_ℚ (pos 10) ≢ zero_ℚ
ten-ne-zero e = let f : pos 10 ≡ pos 0 = whole_injective (pos 10) (pos 0) (e ∙ sym whole-zero) in cc

repeated-ten : (k : ℕ) → repeated (whole_ℚ (pos 10)) k ≡ whole_ℚ (pos (10 ^ k))
repeated-ten zero = sym whole-one
repeated-ten (suc k) =
    ap (λ x. whole_ℚ (pos 10) *ℚ x) (repeated-ten k)
    ∙ sym (whole-mul (pos 10) (pos (10 ^ k)))
    ∙ ap whole_ℚ (shape (10 ^ k) (10 ^ suc k) (pow-suc 10 k))
  where
    shape : (p q : ℕ) → q ≡ p * 10 → pos 10 *ℤ pos p ≡ pos q
    shape p q e = omega (arith, ints, e)

power-ten : (k : ℕ) → power_ℚ (whole_ℚ (pos 10)) (pos k) ≡ whole_ℚ (pos (10 ^ k))
unfolding power_ℚ
power-ten k = repeated-ten k

power-tenth : (k : ℕ) → power_ℚ (whole_ℚ (pos 10)) (neg_ℤ (pos k)) ≡ inv_ℚ (whole_ℚ (pos (10 ^ k)))
power-tenth k = power_rules.turned (whole_ℚ (pos 10)) (pos k) ten-ne-zero ∙ ap inv_ℚ (power-ten k)

pub abs-signed : (s : Bool) (n : ℕ) → unsigned_abs (signed s n) ≡ n
abs-signed false n = refl
abs-signed true zero = refl
abs-signed true (suc n) = refl

pub signed-mul : (s : Bool) (m n : ℕ) → signed s m *ℤ pos n ≡ signed s (m * n)
signed-mul false m n = refl
signed-mul true zero n = simp zero-mul_ℕ
signed-mul true (suc m) n = refl

pub scaled-up : (s : Bool) (m k : ℕ) → scaled s m (pos k) ≡ whole_ℚ (signed s (m * 10 ^ k))
scaled-up s m k = ap (λ x. whole_ℚ (signed s m) *ℚ x) (power-ten k) ∙ sym (whole-mul (signed s m) (pos (10 ^ k))) ∙ ap whole_ℚ (signed-mul s m (10 ^ k))

pub scaled-down : (s : Bool) (m k : ℕ) → scaled s m (neg_ℤ (pos k)) ≡ whole_ℚ (signed s m) /ℚ whole_ℚ (pos (10 ^ k))
scaled-down s m k = ap (λ x. whole_ℚ (signed s m) *ℚ x) (power-tenth k)

pub scaled-sum : (s : Bool) (m : ℕ) (e f : ℤ) → scaled s m (e +ℤ f) ≡ scaled s m e *ℚ scaled false 1 f
scaled-sum s m e f =
    ap (λ x. whole_ℚ (signed s m) *ℚ x) (power_rules.sum (whole_ℚ (pos 10)) e f ten-ne-zero)
    ∙ sym (mul_assoc _ _ _)
    ∙ ap (λ x. scaled s m e *ℚ x) (sym (ap (λ x. x *ℚ power_ℚ (whole_ℚ (pos 10)) f) whole-one ∙ one-mul _))

-- zeros behind a number and a higher exponent are the same
pub scaled-zeros : (s : Bool) (m z : ℕ) (e : ℤ) → scaled s (m * 10 ^ z) e ≡ scaled s m (pos z +ℤ e)
scaled-zeros s m z e =
    ap (λ x. x *ℚ power_ℚ (whole_ℚ (pos 10)) e) (sym (scaled-up s m z))
    ∙ mul_assoc _ _ _
    ∙ ap (λ x. whole_ℚ (signed s m) *ℚ x) (sym (power_rules.sum (whole_ℚ (pos 10)) (pos z) e ten-ne-zero))

pub scaled-zero : (s : Bool) (e : ℤ) → scaled s 0 e ≡ zero_ℚ
scaled-zero s e = ap (λ x. whole_ℚ x *ℚ power_ℚ (whole_ℚ (pos 10)) e) (none s) ∙ ap (λ x. x *ℚ power_ℚ (whole_ℚ (pos 10)) e) whole-zero ∙ zero-mul _
  where
    none : (s : Bool) → signed s 0 ≡ pos 0
    none false = refl
    none true = refl

pub quotient-is : (z : ℤ) (d : ℕ) → 0 < d → whole_ℚ z /ℚ whole_ℚ (pos d) ≡ frac z d
quotient-is z d h =
    ap (λ x. whole_ℚ z *ℚ x) (school_rules.inverse d 1 (omega arith) h)
    ∙ frac-mul z (pos 1) 1 d (omega arith) h
    ∙ ap₂ frac (omega (arith, ints)) (omega arith)
