-- The sum of two fractions over the least common multiple of their denominators.
use Rattle.std.proofs.Common.{◌≡◌, ℕ, ◌+◌, ◌-◌, ◌*◌, ◌/◌, ◌<◌, ◌^◌, ◌⊎◌, ⊎_elim, ℤ, pos, negsuc, ◌+ℤ◌, ◌*ℤ◌, sym, ◌∙◌, ap, subst, arith}
use Rattle.std.specs.Prelude.{unsigned_abs, int_lt}
use Rattle.std.proofs.lemmas.Int.{ints, unsigned_abs-mul}
use Rattle.std.specs.Int.{◌∣◌, IsGcd}
use Rattle.std.proofs.lemmas.Nat.Gcd.{same_from_IsGcd}
use Rattle.std.proofs.Math.Nat.{div-mul_cancel, dvd-mul_left, dvd-add, dvd-sub, dvd_trans, mul-pos, mul_comm, div-eq_of_eq-mul_left, div-le_self}
use lib.IntN.{+ℤ_comm}
use Rattle.frac128.specs.Narrow.{IsNarrowWhole}
use Rattle.frac128.specs.Pairs.{Pair, IsSame, IsReduced, IsNarrowPair, HasNarrow, IsCoprime, sum, IsNarrowPairSum, HasNarrowSum}
use Rattle.frac128.specs.Signed.{signed}
use Rattle.frac128.proofs.Coprime.{coprime-mul, coprime-swap, coprime_of_dvd, coprime-quotients, dvd_of_coprime}
use Rattle.frac128.proofs.WholeNumbers.{scale_twice, scale_sum}
use Rattle.frac128.proofs.Lowest.{is_narrow, abs-signed, signed-scale, divisor_positive}
use Rattle.frac128.proofs.Products.{quotient-dvd, quotient_positive}

abs_cases : (u v : ℤ) → (unsigned_abs u ≡ unsigned_abs (u +ℤ v) + unsigned_abs v) ⊎ ((unsigned_abs u ≡ unsigned_abs (u +ℤ v) - unsigned_abs v) ⊎ (unsigned_abs u ≡ unsigned_abs v - unsigned_abs (u +ℤ v)))
abs_cases u v = grind (arith, ints)

-- what divides a sum and one of its parts divides the other
pub dvd_abs : (p : ℕ) (u v : ℤ) → p ∣ unsigned_abs (u +ℤ v) → p ∣ unsigned_abs v → p ∣ unsigned_abs u
dvd_abs p u v h k =
    ⊎_elim (λ e. rw e (dvd-add p h k))
    (⊎_elim (λ e. rw e (dvd-sub p h k)) (λ e. rw e (dvd-sub p k h)))
    (abs_cases u v)

pub total_coprime : (z w : ℤ) (b b' d' : ℕ) → IsCoprime (unsigned_abs z) b → b' ∣ b → IsCoprime b' d' → IsCoprime (unsigned_abs (z *ℤ pos d' +ℤ w *ℤ pos b')) b'
total_coprime z w b b' d' h q c p pt pb =
    let right : p ∣ unsigned_abs (w *ℤ pos b') = rw unsigned_abs-mul (dvd_trans p pb (dvd-mul_left b' (unsigned_abs w))) in
    let left = dvd_abs p (z *ℤ pos d') (w *ℤ pos b') pt right in
    let turned : p ∣ d' * unsigned_abs z = subst (λ k. p ∣ k) (unsigned_abs-mul z (pos d') ∙ mul_comm _ _) left in
    h p (dvd_of_coprime p d' (unsigned_abs z) (coprime_of_dvd b' d' p pb c) turned) (dvd_trans p pb q)

pub sign_of : (z : ℤ) → signed (int_lt z (pos 0)) (unsigned_abs z) ≡ z
sign_of (pos a) = grind (arith, ints)
sign_of (negsuc a) = grind (arith, ints)

-- z / b plus w / d, where g divides what b and d share, and h what their sum and g share
module _ (x y : Pair) (g h : ℕ) (p : IsReduced x) (q : IsReduced y) (pg : IsGcd x.den y.den g) where
  abbrev pub total : ℤ
  total = x.num *ℤ pos (y.den / g) +ℤ y.num *ℤ pos (x.den / g)

  -- the school sum is total * g
  pub total_times : x.num *ℤ pos y.den +ℤ y.num *ℤ pos x.den ≡ total *ℤ pos g
  total_times =
      let ex = div-mul_cancel g pg.0 in
      let ey = div-mul_cancel g pg.1 in
      (λ i. x.num *ℤ pos (sym ey i) +ℤ y.num *ℤ pos (sym ex i))
      ∙ (λ i. sym (scale_twice x.num (y.den / g) g) i +ℤ sym (scale_twice y.num (x.den / g) g) i)
      ∙ sym (scale_sum (x.num *ℤ pos (y.den / g)) (y.num *ℤ pos (x.den / g)) g)

  module _ (ph : IsGcd (unsigned_abs total) g h) where
    abbrev pub summed : Pair
    summed = record { num = signed (int_lt total (pos 0)) (unsigned_abs total / h); den = (x.den / g) * (y.den / h) }

    over : h ∣ y.den
    over = dvd_trans h ph.1 pg.1

    common_positive : 0 < g
    common_positive = divisor_positive x.den y.den g q.positive pg

    -- the rest of y's denominator
    rest : y.den / h ≡ (y.den / g) * (g / h)
    rest = div-eq_of_eq-mul_left (divisor_positive _ g h common_positive ph) (split (y.den / g) (g / h) (div-mul_cancel g pg.1) (div-mul_cancel h ph.1))
      where
        split : (u v : ℕ) → u * g ≡ y.den → v * h ≡ g → y.den ≡ u * v * h
        split u v a b = sym a ∙ ap (λ k. u * k) (sym b) ∙ omega arith

    apart : IsCoprime (x.den / g) (y.den / g)
    apart = coprime-quotients x.den y.den g common_positive pg

    part : unsigned_abs total / h ∣ unsigned_abs total
    part = quotient-dvd _ h ph.0

    with_left : IsCoprime (unsigned_abs total) (x.den / g)
    with_left = total_coprime x.num y.num x.den (x.den / g) (y.den / g) p.coprime (quotient-dvd x.den g pg.0) apart

    with_right : IsCoprime (unsigned_abs total) (y.den / g)
    with_right = rw +ℤ_comm (total_coprime y.num x.num y.den (y.den / g) (x.den / g) q.coprime (quotient-dvd y.den g pg.1) (coprime-swap _ _ apart))

    pub summed_reduced : IsReduced summed
    summed_reduced = record {
      positive = mul-pos (quotient_positive x.den g p.positive pg.0) (quotient_positive y.den h q.positive over);
      coprime = rw (abs-signed, rest) (coprime-swap _ _ (coprime-mul (x.den / g) (y.den / g * (g / h)) _
          (coprime-swap _ _ (coprime_of_dvd _ _ _ part with_left))
          (coprime-mul (y.den / g) (g / h) _ (coprime-swap _ _ (coprime_of_dvd _ _ _ part with_right)) (coprime-swap _ _ (coprime-quotients _ g h (divisor_positive _ g h common_positive ph) ph)))));
    }

    pub summed_same : IsSame summed (sum x y)
    summed_same =
        let t = unsigned_abs total in
        let s = int_lt total (pos 0) in
        let sizes : (t / h) * (x.den * y.den) ≡ t * (g * ((x.den / g) * (y.den / h))) =
        (λ i. (t / h) * (sym (div-mul_cancel g pg.0) i * sym (div-mul_cancel h over) i)) ∙ turned (t / h) (x.den / g) g (y.den / h) h ∙ ap (λ k. k * (g * ((x.den / g) * (y.den / h)))) (div-mul_cancel h ph.0) in
        signed-scale s (t / h) (x.den * y.den) ∙ ap (signed s) sizes ∙ sym (signed-scale s t _) ∙ ap (λ z. z *ℤ pos (g * ((x.den / g) * (y.den / h)))) (sign_of total)
        ∙ sym (scale_twice total g _) ∙ ap (λ z. z *ℤ pos ((x.den / g) * (y.den / h))) (sym total_times)
      where
        turned : (t' a g b h : ℕ) → t' * ((a * g) * (b * h)) ≡ (t' * h) * (g * (a * b))
        turned t' a g b h = omega arith

    pub summed_fits : HasNarrow (sum x y) → (unsigned_abs total / h < 2 ^ 127) × ((x.den / g) * (y.den / h) < 2 ^ 127)
    summed_fits n =
        let r = is_narrow summed (sum x y) (mul-pos p.positive q.positive) summed_reduced summed_same n in
        (rw abs-signed at r.num, r.den)

-- all of the rule, at the greatest common divisor that the code found
pub narrow_sum_at : (x y : Pair) (g : ℕ) → IsGcd x.den y.den g → HasNarrowSum x y → IsNarrowPairSum x y g
narrow_sum_at x y g p n = subst (IsNarrowPairSum x y) (same_from_IsGcd x.den y.den n.0 g n.1.common p) n.1

-- what `add` has worked out of x and y: t is their sum over the least common multiple, and s its size
pub record IsSummed (x y : Pair) (g : ℕ) (t : ℤ) (s h : ℕ) : Type 0 where
  pub x_reduced : IsReduced x
  pub y_reduced : IsReduced y
  pub common : IsGcd x.den y.den g
  pub total_is : t ≡ x.num *ℤ pos (y.den / g) +ℤ y.num *ℤ pos (x.den / g)
  pub size : s ≡ unsigned_abs t
  pub shared : IsGcd s g h

over_total : (x y : Pair) (g : ℕ) (t : ℤ) (s h : ℕ) → IsSummed x y g t s h → IsGcd (unsigned_abs (x.num *ℤ pos (y.den / g) +ℤ y.num *ℤ pos (x.den / g))) g h
over_total x y g t s h c = subst (λ k. IsGcd k g h) (c.size ∙ ap unsigned_abs c.total_is) c.shared

pub summed_den_fits : (x y : Pair) (g : ℕ) (t : ℤ) (s h : ℕ) → IsSummed x y g t s h → HasNarrowSum x y → (x.den / g) * (y.den / h) < 2 ^ 127
summed_den_fits x y g t s h c n =
    (summed_fits x y g h c.x_reduced c.y_reduced c.common (over_total x y g t s h c) n.1.lowest).1

pub summed_made : (x y : Pair) (g : ℕ) (t : ℤ) (s h : ℕ) → IsSummed x y g t s h → IsNarrowWhole t → (d : ℕ) → d ≡ (x.den / g) * (y.den / h) → d < 2 ^ 127
    → (v : ℤ) → v ≡ signed (int_lt t (pos 0)) (s / h) → IsNarrowPair (record { num = v; den = d }) × IsSame (record { num = v; den = d }) (sum x y)
summed_made x y g t s h c small d ed sd v ev =
    let ph = over_total x y g t s h c in
    let num : signed (int_lt (x.num *ℤ pos (y.den / g) +ℤ y.num *ℤ pos (x.den / g)) (pos 0)) (unsigned_abs (x.num *ℤ pos (y.den / g) +ℤ y.num *ℤ pos (x.den / g)) / h) ≡ v =
    (λ i. signed (int_lt (sym c.total_is i) (pos 0)) (unsigned_abs (sym c.total_is i) / h)) ∙ ap (λ k. signed (int_lt t (pos 0)) (k / h)) (sym c.size) ∙ sym ev in
    let made : summed x y g h c.x_reduced c.y_reduced c.common ph ≡ record { num = v; den = d } = λ i. record { num = num i; den = sym ed i } in (
      record {
        num = rw (ev, abs-signed) (omega (arith, div-le_self s h, c.size));
        den = sd;
        reduced = subst IsReduced made (summed_reduced x y g h c.x_reduced c.y_reduced c.common ph);
      },
      subst (λ f. IsSame f (sum x y)) made (summed_same x y g h c.x_reduced c.y_reduced c.common ph),
    )

pub both_narrow : (x y f : Pair) (g : ℕ) (l r : ℤ) → IsGcd x.den y.den g → l ≡ x.num *ℤ pos (y.den / g) → r ≡ y.num *ℤ pos (x.den / g) → IsNarrowWhole l → IsNarrowWhole r → IsNarrowWhole (l +ℤ r)
    → IsNarrowPair f → IsSame f (sum x y) → HasNarrowSum x y
both_narrow x y f g l r p el er sl sr st n e = (
  g,
  record {
    common = p;
    left = subst IsNarrowWhole el sl;
    right = subst IsNarrowWhole er sr;
    total = subst IsNarrowWhole (λ i. el i +ℤ er i) st;
    lowest = (f, n, e);
  },
)
