-- Where a whole number times a power of ten is narrow.
use Rattle.std.proofs.Common.{◌≡◌, ◌≢◌, ℕ, zero, suc, ◌*◌, ◌/◌, ◌-◌, ◌^◌, ◌<◌, ◌≤◌, Bool, false, sym, ap, ap₂, subst, ◌∙◌, arith, lit≤, lit<, ℤ, pos, negsuc, neg_ℤ, ◌+ℤ◌, ◌↔◌, ◌⊎◌, inl, inr, Option, MatchOption, int_div}
use Rattle.std.specs.Prelude.{unsigned_abs, nat_abs, ◌<ℤ◌}
use Rattle.std.proofs.lemmas.Int.{ints, unsigned_abs-mul}
use Rattle.std.proofs.Math.Nat.{mul-pos, pow-le-pow_right, mul-le-mul_left, div-le_self}
use Rattle.fractions.specs.Gcd.{gcd}
use Rattle.fractions.specs.Rational.{ℚ, frac, numerator, denominator, ◌*ℚ◌, ◌/ℚ◌}
use Rattle.fractions.specs.Whole.{whole_ℚ}
use Rattle.fractions.proofs.Parts.{frac_fields, frac_rep}
use Rattle.fractions.proofs.Whole.{whole-zero, numerator-whole, denominator-whole}
use Rattle.frac128.specs.Signed.{signed}
use Rattle.frac128.specs.Narrow.{IsNarrow}
use Rattle.frac128.specs.Numeral.{scaled}
use Rattle.frac128.specs.Scaled.{IsScaled}
use Rattle.frac128.proofs.TenPowers.{big_shift, one_le_ten}
use Rattle.frac128.proofs.Tens.{abs-signed, quotient-is, scaled-down, scaled-sum, scaled-up, scaled-zero}

pub whole-narrow : (z : ℤ) → IsNarrow (whole_ℚ z) ↔ (unsigned_abs z < 2 ^ 127)
whole-narrow z = (
  λ h. subst (λ n. unsigned_abs n < 2 ^ 127) (numerator-whole z) h.num,
  λ h. record { num = subst (λ n. unsigned_abs n < 2 ^ 127) (sym (numerator-whole z)) h; den = subst (λ d. d < 2 ^ 127) (sym (denominator-whole z)) (lit< tt) },
)

abs-div : (z : ℤ) (g : ℕ) → unsigned_abs (int_div z (pos g)) ≤ unsigned_abs z
abs-div (pos a) g = div-le_self a g
abs-div (negsuc a) g = below (suc a) (suc a / g) (div-le_self (suc a) g)
  where
    below : (a q : ℕ) → q ≤ a → unsigned_abs (neg_ℤ (pos q)) ≤ a
    below a zero h = h
    below a (suc q) h = h

-- a fraction of narrow numbers is narrow, since its lowest terms are no larger
pub frac-narrow : (z : ℤ) (d : ℕ) → 0 < d → unsigned_abs z < 2 ^ 127 → d < 2 ^ 127 → IsNarrow (frac z d)
frac-narrow z d h k l =
    let f = frac_fields z d h in
    let g = gcd (nat_abs z) d in
    record {
      num = subst (λ n. unsigned_abs n < 2 ^ 127) (sym f.0) (omega (arith, k, abs-div z g));
      den = subst (λ n. n < 2 ^ 127) (sym f.1) (omega (arith, l, div-le_self d g));
    }

-- a narrow fraction m / d: d times its numerator is m times its denominator
pub narrow-product : (s : Bool) (m d : ℕ) → 0 < d → 0 < m → m < 2 ^ 127 → IsNarrow (frac (signed s m) d) → d < 2 ^ 127 * 2 ^ 127
narrow-product s m d h k l w =
    let r = frac_rep (signed s m) d h in
    let e : unsigned_abs (numerator (frac (signed s m) d)) * d ≡ m * denominator (frac (signed s m) d) =
    sym (unsigned_abs-mul (numerator (frac (signed s m) d)) (pos d)) ∙ ap unsigned_abs r.scaled ∙ unsigned_abs-mul (signed s m) (pos (denominator (frac (signed s m) d))) ∙ ap (λ x. x * denominator (frac (signed s m) d)) (abs-signed s m) in
    bounded (unsigned_abs (numerator (frac (signed s m) d))) d m (denominator (frac (signed s m) d)) e k r.den_pos l w.den
  where
    times : (n d : ℕ) → d ≤ suc n * d
    times n d = grind arith

    bounded : (n d m q : ℕ) → n * d ≡ m * q → 0 < m → 0 < q → m < 2 ^ 127 → q < 2 ^ 127 → d < 2 ^ 127 * 2 ^ 127
    bounded zero d m q e k r l w = let p : 0 < m * q = mul-pos k r in absurd (omega (arith, e, p))
    bounded (suc n) d m q e k r l w =
        let p : d ≤ suc n * d = times n d in
        let t : m * q ≤ m * 2 ^ 127 = mul-le-mul_left m (omega (arith, w)) in
        omega (arith, e, p, t, l)

pub wide-above : (s : Bool) (m k : ℕ) → 2 ^ 127 ≤ m * 10 ^ k → ¬ (IsNarrow (scaled s m (pos k)))
wide-above s m k h w =
    let n = (whole-narrow (signed s (m * 10 ^ k))).0 (subst IsNarrow (scaled-up s m k) w) in
    omega (arith, h, n, abs-signed s (m * 10 ^ k))

pub wide-below : (s : Bool) (m k : ℕ) → 0 < m → m < 2 ^ 127 → 76 < k → ¬ (IsNarrow (scaled s m (neg_ℤ (pos k))))
wide-below s m k h l g w =
    let p : 0 < 10 ^ k = one_le_ten k in
    let n = narrow-product s m (10 ^ k) p h l (subst IsNarrow (scaled-down s m k ∙ quotient-is (signed s m) (10 ^ k) p) w) in
    let least : 10 ^ 77 ≤ 10 ^ k = pow-le-pow_right (omega arith) {i = 77} {j = k} (omega arith) in
    let large : 2 ^ 127 * 2 ^ 127 ≤ 10 ^ 77 = lit≤ tt in
    omega (arith, n, least, large)

-- the quotient by a power up to the 38th is narrow
pub narrow-down : (s : Bool) (m k : ℕ) → m < 2 ^ 127 → k ≤ 38 → IsNarrow (scaled s m (neg_ℤ (pos k)))
narrow-down s m k l h =
    let p : 0 < 10 ^ k = one_le_ten k in
    let most : 10 ^ k ≤ 10 ^ 38 = pow-le-pow_right (omega arith) {i = k} {j = 38} h in
    let fits : 10 ^ 38 < 2 ^ 127 = lit< tt in
    subst IsNarrow (sym (scaled-down s m k ∙ quotient-is (signed s m) (10 ^ k) p)) (frac-narrow (signed s m) (10 ^ k) p (subst (λ n. n < 2 ^ 127) (sym (abs-signed s m)) l) (omega (arith, most, fits)))

-- of a number but 0 no power of ten beyond 38 and below -76 makes a narrow one
pub wide-exponent : (s : Bool) (m : ℕ) (e : ℤ) → m ≢ 0 → m < 2 ^ 127 → (pos 38 <ℤ e) ⊎ (e <ℤ negsuc 75) → ¬ (IsNarrow (scaled s m e))
wide-exponent s m (pos k) h l (inl g) = wide-above s m k (big_shift m k h (omega (arith, ints, g)))
wide-exponent s m (pos k) h l (inr g) = absurd (omega (arith, ints, g))
wide-exponent s m (negsuc k) h l (inl g) = absurd (omega (arith, ints, g))
wide-exponent s m (negsuc k) h l (inr g) = wide-below s m (suc k) (omega arith) l (omega (arith, ints, g))

pub scaled-answer : (r : Option ℚ) (s : Bool) (m : ℕ) (e : ℤ) (x : ℚ) → x ≡ scaled s m e → MatchOption r (¬ (IsNarrow x)) (λ f. (f ≡ x) × IsNarrow f) → IsScaled r s m e
scaled-answer r s m e x h = subst (λ y. MatchOption r (¬ (IsNarrow y)) (λ f. (f ≡ y) × IsNarrow f)) h

pub up-is : (s : Bool) (m k n : ℕ) (z : ℤ) → z ≡ signed s n → n ≡ m * 10 ^ k → whole_ℚ z /ℚ whole_ℚ (pos 1) ≡ scaled s m (pos k)
up-is s m k n z e f = quotient-is z 1 (omega arith) ∙ ap whole_ℚ (e ∙ ap (signed s) f) ∙ sym (scaled-up s m k)

pub down-is : (s : Bool) (m k n : ℕ) (z d : ℤ) → z ≡ signed s m → d ≡ signed false n → n ≡ 10 ^ k → whole_ℚ z /ℚ whole_ℚ d ≡ scaled s m (neg_ℤ (pos k))
down-is s m k n z d e f g = ap₂ (λ a b. whole_ℚ a /ℚ whole_ℚ b) e (f ∙ ap pos g) ∙ sym (scaled-down s m k)

pub zero-is : (s : Bool) (m : ℕ) (e : ℤ) → m ≡ 0 → whole_ℚ (pos 0) /ℚ whole_ℚ (pos 1) ≡ scaled s m e
zero-is s m e h = quotient-is (pos 0) 1 (omega arith) ∙ whole-zero ∙ sym (ap (λ n. scaled s n e) h ∙ scaled-zero s e)

pub twice-is : (s : Bool) (m k : ℕ) (x y : ℚ) → 38 ≤ k → x ≡ scaled s m (negsuc 37) → y ≡ scaled false 1 (neg_ℤ (pos (k - 38))) → x *ℚ y ≡ scaled s m (neg_ℤ (pos k))
twice-is s m k x y h e f = ap₂ ◌*ℚ◌ e f ∙ sym (scaled-sum s m (negsuc 37) (neg_ℤ (pos (k - 38)))) ∙ ap (scaled s m) (parts k h)
  where
    parts : (k : ℕ) → 38 ≤ k → negsuc 37 +ℤ neg_ℤ (pos (k - 38)) ≡ neg_ℤ (pos k)
    parts k h = omega (arith, ints)
