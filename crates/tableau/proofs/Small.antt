-- Sums of products of small numbers, found over one denominator.
use Rattle.std.proofs.Common.{◌≡◌, ℕ, zero, suc, ◌*◌, ◌/◌, ◌+◌, ◌^◌, ◌<◌, ◌≤◌, sym, ap₂, subst, ◌∙◌, arith, mul-le-mul, ℤ, pos, negsuc, neg_ℤ, ◌+ℤ◌, ◌*ℤ◌, int_div}
use Rattle.std.specs.Prelude.{unsigned_abs, nat_abs}
use Rattle.std.proofs.lemmas.Int.{ints, unsigned_abs-mul}
use Rattle.std.proofs.Math.Nat.{div-le_self, mul-pos}
use Rattle.fractions.specs.Gcd.{gcd}
use Rattle.fractions.specs.Rational.{ℚ, frac, numerator, denominator, ◌+ℚ◌, ◌*ℚ◌}
use Rattle.fractions.proofs.Parts.{frac_fields, frac_self, den_pos}
use Rattle.fractions.proofs.School.{frac-mul}
use Rattle.frac128.specs.Narrow.{IsNarrow}
use Rattle.dictionaries.specs.Narrow.{IsNarrowStep}

abs-div : (z : ℤ) (g : ℕ) → unsigned_abs (int_div z (pos g)) ≤ unsigned_abs z
abs-div (pos a) g = div-le_self a g
abs-div (negsuc a) g = below (suc a) (suc a / g) (div-le_self (suc a) g)
  where
    below : (a q : ℕ) → q ≤ a → unsigned_abs (neg_ℤ (pos q)) ≤ a
    below a zero h = h
    below a (suc q) h = h

pub abs-sum : (a b : ℤ) → unsigned_abs (a +ℤ b) ≤ unsigned_abs a + unsigned_abs b
abs-sum a b = omega (arith, ints)

-- the parts in lowest terms are no larger
lowest_fields : (z : ℤ) (d : ℕ) → 0 < d → (unsigned_abs (numerator (frac z d)) ≤ unsigned_abs z) × (denominator (frac z d) ≤ d)
lowest_fields z d h =
    let f = frac_fields z d h in
    let g = gcd (nat_abs z) d in
    (subst (λ n. unsigned_abs n ≤ unsigned_abs z) (sym f.0) (abs-div z g), subst (λ n. n ≤ d) (sym f.1) (div-le_self d g))

-- both parts are below 2 ^ 20 in size
pub record IsSmall (x : ℚ) : Type 0 where
  pub num : unsigned_abs (numerator x) < 2 ^ 20
  pub den : denominator x < 2 ^ 20

pub product_is : (b c : ℚ) → b *ℚ c ≡ frac (numerator b *ℤ numerator c) (denominator b * denominator c)
product_is b c = ap₂ ◌*ℚ◌ (sym (frac_self b)) (sym (frac_self c)) ∙ frac-mul (numerator b) (numerator c) (denominator b) (denominator c) (den_pos b) (den_pos c)

product_num : (b c : ℚ) → IsSmall b → IsSmall c → unsigned_abs (numerator (b *ℚ c)) ≤ 2 ^ 40
product_num b c h k =
    let f = lowest_fields (numerator b *ℤ numerator c) (denominator b * denominator c) (mul-pos (den_pos b) (den_pos c)) in
    let e : unsigned_abs (numerator (b *ℚ c)) ≤ unsigned_abs (numerator b *ℤ numerator c) = subst (λ t. unsigned_abs (numerator t) ≤ unsigned_abs (numerator b *ℤ numerator c)) (sym (product_is b c)) f.0 in
    let x : unsigned_abs (numerator b) ≤ 2 ^ 20 = omega (arith, h.num) in
    let y : unsigned_abs (numerator c) ≤ 2 ^ 20 = omega (arith, k.num) in
    omega (arith, e, unsigned_abs-mul (numerator b) (numerator c), mul-le-mul x y)

product_den : (b c : ℚ) → IsSmall b → IsSmall c → denominator (b *ℚ c) ≤ 2 ^ 40
product_den b c h k =
    let f = lowest_fields (numerator b *ℤ numerator c) (denominator b * denominator c) (mul-pos (den_pos b) (den_pos c)) in
    let e : denominator (b *ℚ c) ≤ denominator b * denominator c = subst (λ t. denominator t ≤ denominator b * denominator c) (sym (product_is b c)) f.1 in
    let x : denominator b ≤ 2 ^ 20 = omega (arith, h.den) in
    let y : denominator c ≤ 2 ^ 20 = omega (arith, k.den) in
    omega (arith, e, mul-le-mul x y)

scaled : (z : ℤ) (d g : ℕ) → unsigned_abs z ≤ 2 ^ 40 → d ≤ 2 ^ 40 → unsigned_abs (z *ℤ pos (d / g)) ≤ 2 ^ 80
scaled z d g h k =
    let q : d / g ≤ 2 ^ 40 = omega (arith, div-le_self d g, k) in
    omega (arith, unsigned_abs-mul z (pos (d / g)), mul-le-mul h q)

-- the product and the sum of small numbers are narrow
pub small_step_narrow : (a b c : ℚ) → IsSmall a → IsSmall b → IsSmall c → IsNarrow (a +ℚ b *ℚ c) → IsNarrowStep a b c
unfolding IsNarrowStep
small_step_narrow a b c h k l n =
    let p = product_num b c k l in
    let q = product_den b c k l in
    let g = gcd (denominator a) (denominator (b *ℚ c)) in
    let x : unsigned_abs (numerator a *ℤ pos (denominator (b *ℚ c) / g)) ≤ 2 ^ 80 = scaled (numerator a) (denominator (b *ℚ c)) g (omega (arith, h.num)) q in
    let y : unsigned_abs (numerator (b *ℚ c) *ℤ pos (denominator a / g)) ≤ 2 ^ 80 = scaled (numerator (b *ℚ c)) (denominator a) g p (omega (arith, h.den)) in (
      record { num = omega (arith, p); den = omega (arith, q) },
      record { left = omega (arith, x); right = omega (arith, y); total = omega (arith, x, y, abs-sum (numerator a *ℤ pos (denominator (b *ℚ c) / g)) (numerator (b *ℚ c) *ℤ pos (denominator a / g))); lowest = n },
    )
