-- The product of two fractions, with each numerator and the other's denominator divided by what they share.
use Rattle.std.proofs.Common.{◌≡◌, ℕ, zero, suc, ◌*◌, ◌/◌, ◌<◌, ◌^◌, Bool, ℤ, pos, negsuc, ◌*ℤ◌, sym, ◌∙◌, ap, subst, arith}
use Rattle.std.specs.Prelude.{unsigned_abs, int_lt}
use Rattle.std.proofs.lemmas.Int.{ints}
use mathlib.Core.Bool.{not, beq}
use Rattle.std.specs.Int.{◌∣◌, IsGcd}
use Rattle.std.proofs.Math.Nat.{div-mul_cancel, dvd-mul_right, mul-pos}
use Rattle.frac128.specs.Pairs.{Pair, IsSame, IsReduced, IsNarrowPair, HasNarrow, IsCoprime, product}
use Rattle.frac128.specs.Signed.{signed}
use Rattle.frac128.proofs.Coprime.{coprime-mul, coprime-swap, coprime_of_dvd, coprime-quotients}
use Rattle.frac128.proofs.Lowest.{is_narrow, abs-signed, signed-scale, divisor_positive}

-- what is left after a division divides
pub quotient-dvd : (n g : ℕ) → g ∣ n → n / g ∣ n
quotient-dvd n g p = subst (λ k. n / g ∣ k) (div-mul_cancel g p) (dvd-mul_right (n / g) g)

pub quotient_positive : (n g : ℕ) → 0 < n → g ∣ n → 0 < n / g
quotient_positive n g h p = pos_of_mul (n / g) g (subst (λ k. 0 < k) (sym (div-mul_cancel g p)) h)
  where
    pos_of_mul : (a b : ℕ) → 0 < a * b → 0 < a
    pos_of_mul zero b h = absurd (omega arith)
    pos_of_mul (suc a) b h = omega arith

pub coprime_parts : (a b c d : ℕ) → IsCoprime a b → c ∣ a → d ∣ b → IsCoprime c d
coprime_parts a b c d h p q = coprime-swap d c (coprime_of_dvd b c d q (coprime-swap c b (coprime_of_dvd a b c p h)))

pub coprime_products : (a b c d : ℕ) → IsCoprime a c → IsCoprime a d → IsCoprime b c → IsCoprime b d → IsCoprime (a * b) (c * d)
coprime_products a b c d ac ad bc bd =
    coprime-mul a b (c * d)
    (coprime-swap (c * d) a (coprime-mul c d a (coprime-swap a c ac) (coprime-swap a d ad)))
    (coprime-swap (c * d) b (coprime-mul c d b (coprime-swap b c bc) (coprime-swap b d bd)))

-- z / b times w / d, where u is the product's sign
module _ (u : Bool) (z w : ℤ) (b d g h : ℕ) (x : IsReduced (record { num = z; den = b })) (y : IsReduced (record { num = w; den = d }))
    (pg : IsGcd (unsigned_abs z) d g) (ph : IsGcd (unsigned_abs w) b h) (e : signed u (unsigned_abs z * unsigned_abs w) ≡ z *ℤ w) where
  abbrev pub crossed : Pair
  crossed = record { num = signed u ((unsigned_abs z / g) * (unsigned_abs w / h)); den = (b / h) * (d / g) }

  pub crossed_reduced : IsReduced crossed
  crossed_reduced = record {
    positive = mul-pos (quotient_positive b h x.positive ph.1) (quotient_positive d g y.positive pg.1);
    coprime = rw abs-signed (coprime_products _ _ _ _
        (coprime_parts _ _ _ _ x.coprime (quotient-dvd _ g pg.0) (quotient-dvd b h ph.1))
        (coprime-quotients _ d g (divisor_positive _ d g y.positive pg) pg)
        (coprime-quotients _ b h (divisor_positive _ b h x.positive ph) ph)
        (coprime_parts _ _ _ _ y.coprime (quotient-dvd _ h ph.0) (quotient-dvd d g pg.1)));
  }

  turned : (p q b' d' g h : ℕ) → (p * q) * ((b' * h) * (d' * g)) ≡ ((p * g) * (q * h)) * (b' * d')
  turned p q b' d' g h = omega arith

  pub crossed_same : IsSame crossed (product (record { num = z; den = b }) (record { num = w; den = d }))
  crossed_same =
      let m = unsigned_abs z in
      let n = unsigned_abs w in
      let ez = div-mul_cancel g pg.0 in
      let ew = div-mul_cancel h ph.0 in
      let eb = div-mul_cancel h ph.1 in
      let ed = div-mul_cancel g pg.1 in
      let inner : ((m / g) * (n / h)) * (b * d) ≡ (m * n) * ((b / h) * (d / g)) =
      (λ i. ((m / g) * (n / h)) * (sym eb i * sym ed i)) ∙ turned (m / g) (n / h) (b / h) (d / g) g h ∙ (λ i. (ez i * ew i) * ((b / h) * (d / g))) in
      signed-scale u _ (b * d) ∙ ap (signed u) inner ∙ sym (signed-scale u (m * n) _) ∙ ap (λ k. k *ℤ pos ((b / h) * (d / g))) e

  pub crossed_wide : HasNarrow (product (record { num = z; den = b }) (record { num = w; den = d })) → ((unsigned_abs z / g) * (unsigned_abs w / h) < 2 ^ 127) × ((b / h) * (d / g) < 2 ^ 127)
  crossed_wide n =
      let r = is_narrow crossed (product (record { num = z; den = b }) (record { num = w; den = d })) (mul-pos x.positive y.positive) crossed_reduced crossed_same n in
      (rw abs-signed at r.num, r.den)

-- the sign of a product, as the code finds it
pub sign_product : (z w : ℤ) → signed (not (beq (int_lt z (pos 0)) (int_lt w (pos 0)))) (unsigned_abs z * unsigned_abs w) ≡ z *ℤ w
sign_product (pos a) (pos b) = grind (arith, ints)
sign_product (pos a) (negsuc b) = grind (arith, ints)
sign_product (negsuc a) (pos b) = grind (arith, ints)
sign_product (negsuc a) (negsuc b) = grind (arith, ints)

-- what `mul` has worked out of x and y: m and k are the numerators' sizes
pub record IsCrossed (x y : Pair) (m k g h : ℕ) : Type 0 where
  pub x_reduced : IsReduced x
  pub y_reduced : IsReduced y
  pub left : m ≡ unsigned_abs x.num
  pub right : k ≡ unsigned_abs y.num
  pub over_left : IsGcd m y.den g
  pub over_right : IsGcd k x.den h

pub crossed_fits : (x y : Pair) (m k g h : ℕ) → IsCrossed x y m k g h → HasNarrow (product x y) → ((m / g) * (k / h) < 2 ^ 127) × ((x.den / h) * (y.den / g) < 2 ^ 127)
crossed_fits x y m k g h c n =
    let gl : IsGcd (unsigned_abs x.num) y.den g = subst (λ j. IsGcd j y.den g) c.left c.over_left in
    let gr : IsGcd (unsigned_abs y.num) x.den h = subst (λ j. IsGcd j x.den h) c.right c.over_right in
    rw (c.left, c.right) (crossed_wide _ x.num y.num x.den y.den g h c.x_reduced c.y_reduced gl gr (sign_product x.num y.num) n)

pub crossed_made : (x y : Pair) (m k g h : ℕ) → IsCrossed x y m k g h → (n d : ℕ) → n ≡ (m / g) * (k / h) → d ≡ (x.den / h) * (y.den / g) → n < 2 ^ 127 → d < 2 ^ 127
    → (v : ℤ) → v ≡ signed (not (beq (int_lt x.num (pos 0)) (int_lt y.num (pos 0)))) n → IsNarrowPair (record { num = v; den = d }) × IsSame (record { num = v; den = d }) (product x y)
crossed_made x y m k g h c n d en ed sn sd v ev =
    let gl : IsGcd (unsigned_abs x.num) y.den g = subst (λ j. IsGcd j y.den g) c.left c.over_left in
    let gr : IsGcd (unsigned_abs y.num) x.den h = subst (λ j. IsGcd j x.den h) c.right c.over_right in
    let u = not (beq (int_lt x.num (pos 0)) (int_lt y.num (pos 0))) in
    let size : (unsigned_abs x.num / g) * (unsigned_abs y.num / h) ≡ n = (λ i. (sym c.left i / g) * (sym c.right i / h)) ∙ sym en in
    let num : signed u ((unsigned_abs x.num / g) * (unsigned_abs y.num / h)) ≡ v = ap (signed u) size ∙ sym ev in
    let made : crossed u x.num y.num x.den y.den g h c.x_reduced c.y_reduced gl gr (sign_product x.num y.num) ≡ record { num = v; den = d } =
    λ i. record { num = num i; den = sym ed i } in
    let reduced : IsReduced (record { num = v; den = d }) = subst IsReduced made (crossed_reduced u x.num y.num x.den y.den g h c.x_reduced c.y_reduced gl gr (sign_product x.num y.num)) in (
      record { num = rw (ev, abs-signed) sn; den = sd; reduced = reduced },
      subst (λ f. IsSame f (product x y)) made (crossed_same u x.num y.num x.den y.den g h c.x_reduced c.y_reduced gl gr (sign_product x.num y.num)),
    )
