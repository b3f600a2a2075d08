-- A sum taken back: where x + y is found by narrow numbers, so is (x + y) - y.
use Rattle.std.proofs.Common.{◌≡◌, ℕ, zero, suc, ◌*◌, ◌/◌, ◌<◌, ◌≤◌, sym, ap, ap₂, subst, ◌∙◌, arith, mul-pos, mul-le-mul, ℤ, pos, negsuc, neg_ℤ, ◌+ℤ◌, ◌*ℤ◌, nat_abs, int_div}
use Rattle.std.specs.Prelude.{unsigned_abs}
use Rattle.std.specs.Int.{◌∣◌}
use Rattle.std.proofs.lemmas.Int.{ints, unsigned_abs-mul}
use Rattle.std.proofs.Math.Nat.{mul_assoc, eq_of_mul-eq-mul_left, mul-div_cancel', pos_of_dvd_of_pos, dvd-mul_left}
use Rattle.fractions.specs.Gcd.{gcd}
use Rattle.fractions.specs.Rational.{ℚ, frac, numerator, denominator, neg_ℚ, ◌+ℚ◌}
use Rattle.fractions.proofs.Gcd.{gcd_is, gcd-mul}
use Rattle.fractions.proofs.Laws.{add_neg_cancel}
use Rattle.fractions.proofs.Parts.{frac_same, frac_fields, frac_self, frac-lowest, den_pos, lowest_is, lowest_in, is_lowest_of}
use Rattle.fractions.proofs.School.{frac-add}
use Rattle.frac128.proofs.WholeNumbers.{scale_twice, scale_sum}
use Rattle.frac128.specs.Narrow.{IsNarrow, IsNarrowSum, IsNarrowWhole}

positive : (g n d : ℕ) → g * n ≡ d → 0 < d → 0 < n
positive g zero d e h = omega (arith, e, h)
positive g (suc n) d e h = omega arith

-- ---- whole numbers
-- D and e by their greatest common divisor, where D * h is a multiple of e
record Shares (D e d h : ℕ) : Type 0 where
  s : ℕ
  s_pos : 0 < s
  of_h : h ≡ (e / gcd D e) * s
  of_d : d ≡ (D / gcd D e) * s

shares : (D e d h : ℕ) → 0 < D → 0 < e → 0 < h → D * h ≡ d * e → Shares D e d h
shares D e d h p q r k = record {
  s = h / b;
  s_pos = positive b (h / b) h back r;
  of_h = sym back;
  of_d = eq_of_mul-eq-mul_left b b_pos d (a * (h / b)) (swapped a b d h (h / b) crossed back);
}
  where
    g : ℕ
    g = gcd D e

    a : ℕ
    a = D / g

    b : ℕ
    b = e / g

    top : g * a ≡ D
    top = mul-div_cancel' g (gcd_is D e).0

    bottom : g * b ≡ e
    bottom = mul-div_cancel' g (gcd_is D e).1

    g_pos : 0 < g
    g_pos = pos_of_dvd_of_pos (gcd_is D e).1 q

    b_pos : 0 < b
    b_pos = positive g b e bottom q

    cross : (g a b D e d h : ℕ) → g * a ≡ D → g * b ≡ e → D * h ≡ d * e → g * (a * h) ≡ g * (d * b)
    cross g a b D e d h t u k = regroup_left g a h ∙ ap (λ n. n * h) t ∙ k ∙ ap (λ n. d * n) (sym u) ∙ regroup_right g b d
      where
        regroup_left : (g a h : ℕ) → g * (a * h) ≡ (g * a) * h
        regroup_left g a h = omega arith

        regroup_right : (g b d : ℕ) → d * (g * b) ≡ g * (d * b)
        regroup_right g b d = omega arith

    crossed : a * h ≡ d * b
    crossed = eq_of_mul-eq-mul_left g g_pos _ _ (cross g a b D e d h top bottom k)

    one : (g n : ℕ) → g * n ≡ g → g * n ≡ g * 1
    one g n e = omega arith

    prime : gcd a b ≡ 1
    prime = eq_of_mul-eq-mul_left g g_pos (gcd a b) 1 (one g (gcd a b) (sym (gcd-mul g a b g_pos) ∙ ap₂ gcd top bottom))

    times_one : (h n : ℕ) → n ≡ 1 → h * n ≡ h
    times_one h n e = ap (λ m. h * m) e ∙ omega arith

    divides : b ∣ h
    divides =
        subst (λ n. b ∣ n) (gcd-mul h a b r ∙ times_one h (gcd a b) prime)
        ((gcd_is (h * a) (h * b)).2 b (subst (λ n. b ∣ n) (sym crossed ∙ swap a h) (dvd-mul_left b d)) (dvd-mul_left b h))
      where
        swap : (a h : ℕ) → a * h ≡ h * a
        swap a h = omega arith

    back : b * (h / b) ≡ h
    back = mul-div_cancel' b divides

    swapped : (a b d h s : ℕ) → a * h ≡ d * b → b * s ≡ h → b * d ≡ b * (a * s)
    swapped a b d h s e f = order b d ∙ sym e ∙ ap (λ n. a * n) (sym f) ∙ turn a b s
      where
        order : (b d : ℕ) → b * d ≡ d * b
        order b d = omega arith

        turn : (a b s : ℕ) → a * (b * s) ≡ b * (a * s)
        turn a b s = omega arith

-- ---- a fraction by other parts of it
record IsScaled (x : ℚ) (z : ℤ) (d : ℕ) : Type 0 where
  by : ℕ
  by_pos : 0 < by
  top : z ≡ numerator x *ℤ pos by
  bottom : d ≡ denominator x * by

divided : (z : ℤ) (g : ℕ) → g * (nat_abs z / g) ≡ nat_abs z → z ≡ int_div z (pos g) *ℤ pos g
divided (pos a) g e = ap pos (sym e ∙ swap g (a / g))
  where
    swap : (g q : ℕ) → g * q ≡ q * g
    swap g q = omega arith
divided (negsuc a) g e = sym (turned (suc a / g) g (suc a) (swap g (suc a / g) ∙ e))
  where
    swap : (g q : ℕ) → q * g ≡ g * q
    swap g q = omega arith

    turned : (q g k : ℕ) → q * g ≡ k → neg_ℤ (pos q) *ℤ pos g ≡ neg_ℤ (pos k)
    turned zero g k e = omega (arith, ints)
    turned (suc q) g k e = ap (λ n. neg_ℤ (pos n)) e

scaled_parts : (z : ℤ) (d : ℕ) (x : ℚ) → x ≡ frac z d → 0 < d → IsScaled x z d
scaled_parts z d x e h = subst (λ t. IsScaled t z d) (sym e) record {
  by = g;
  by_pos = pos_of_dvd_of_pos (gcd_is (nat_abs z) d).1 h;
  top = divided z g (mul-div_cancel' g (gcd_is (nat_abs z) d).0) ∙ ap (λ t. t *ℤ pos g) (sym (frac_fields z d h).0);
  bottom = sym (swap g (d / g) ∙ mul-div_cancel' g (gcd_is (nat_abs z) d).1) ∙ ap (λ t. t * g) (sym (frac_fields z d h).1);
}
  where
    g : ℕ
    g = gcd (nat_abs z) d

    swap : (g q : ℕ) → q * g ≡ g * q
    swap g q = omega arith

-- ---- sizes
smaller : (u v : ℤ) (s : ℕ) → 0 < s → v ≡ u *ℤ pos s → IsNarrowWhole v → IsNarrowWhole u
smaller u v s p e h =
    let f : unsigned_abs v ≡ unsigned_abs u * s = ap unsigned_abs e ∙ unsigned_abs-mul u (pos s) in
    let one : 1 ≤ s = p in
    let less : unsigned_abs u * 1 ≤ unsigned_abs u * s = mul-le-mul (omega arith) one in
    omega (arith, h, f, less)

times_product : (n : ℤ) (b s h : ℕ) → h ≡ b * s → n *ℤ pos h ≡ (n *ℤ pos b) *ℤ pos s
times_product n b s h e = ap (λ k. n *ℤ pos k) e ∙ sym (scale_twice n b s)

turned_product : (m : ℤ) (k : ℕ) → neg_ℤ (m *ℤ pos k) ≡ neg_ℤ m *ℤ pos k
turned_product m k = grind (arith, ints)

times_turned : (m : ℤ) (a s d : ℕ) → d ≡ a * s → neg_ℤ (m *ℤ pos d) ≡ (neg_ℤ m *ℤ pos a) *ℤ pos s
times_turned m a s d e = ap (λ k. neg_ℤ (m *ℤ pos k)) e ∙ turned_product m (a * s) ∙ sym (scale_twice (neg_ℤ m) a s)

both : (u v w x : ℤ) (s : ℕ) → u ≡ w *ℤ pos s → v ≡ x *ℤ pos s → u +ℤ v ≡ (w +ℤ x) *ℤ pos s
both u v w x s e f = ap₂ ◌+ℤ◌ e f ∙ sym (scale_sum w x s)

taken : (l r : ℤ) → (l +ℤ r) +ℤ neg_ℤ r ≡ l
taken l r = omega (arith, ints)

turned_size : (v : ℤ) → IsNarrowWhole v → IsNarrowWhole (neg_ℤ v)
turned_size v h = omega (arith, ints, h)

-- ---- the sum
same_sum : (n m : ℤ) (g d e : ℕ) → (n *ℤ pos (g * e) +ℤ m *ℤ pos (g * d)) *ℤ pos (d * (g * e)) ≡ (n *ℤ pos e +ℤ m *ℤ pos d) *ℤ pos ((g * d) * (g * e))
same_sum n m g d e =
    ap (λ z. z *ℤ pos (d * (g * e))) (ap₂ ◌+ℤ◌ (shared n e) (shared m d) ∙ sym (scale_sum (n *ℤ pos e) (m *ℤ pos d) g))
    ∙ scale_twice (n *ℤ pos e +ℤ m *ℤ pos d) g (d * (g * e)) ∙ ap (λ k. (n *ℤ pos e +ℤ m *ℤ pos d) *ℤ pos k) (sym (mul_assoc g d (g * e)))
  where
    swap : (g e : ℕ) → g * e ≡ e * g
    swap g e = omega arith

    shared : (n : ℤ) (e : ℕ) → n *ℤ pos (g * e) ≡ (n *ℤ pos e) *ℤ pos g
    shared n e = ap (λ k. n *ℤ pos k) (swap g e) ∙ sym (scale_twice n e g)

sum_over : (a q : ℚ) → let g = gcd (denominator a) (denominator q) in
    a +ℚ q ≡ frac (numerator a *ℤ pos (denominator q / g) +ℤ numerator q *ℤ pos (denominator a / g)) ((denominator a / g) * denominator q)
sum_over a q =
    let d = denominator a in
    let e = denominator q in
    let g = gcd d e in
    let top : g * (d / g) ≡ d = mul-div_cancel' g (gcd_is d e).0 in
    let bottom : g * (e / g) ≡ e = mul-div_cancel' g (gcd_is d e).1 in
    ap₂ ◌+ℚ◌ (sym (frac_self a)) (sym (frac_self q)) ∙ frac-add (numerator a) (numerator q) d e (den_pos a) (den_pos q)
    ∙ frac_same _ _ (d * e) ((d / g) * e) (mul-pos (den_pos a) (den_pos q)) (mul-pos (positive g (d / g) d top (den_pos a)) (den_pos q))
    (subst (λ k. (numerator a *ℤ pos e +ℤ numerator q *ℤ pos k) *ℤ pos ((d / g) * e) ≡ (numerator a *ℤ pos (e / g) +ℤ numerator q *ℤ pos (d / g)) *ℤ pos (k * e)) top
    (subst (λ k. (numerator a *ℤ pos k +ℤ numerator q *ℤ pos (g * (d / g))) *ℤ pos ((d / g) * k) ≡ (numerator a *ℤ pos (e / g) +ℤ numerator q *ℤ pos (d / g)) *ℤ pos ((g * (d / g)) * k)) bottom
    (same_sum (numerator a) (numerator q) g (d / g) (e / g))))

neg_parts : (q : ℚ) → (numerator (neg_ℚ q) ≡ neg_ℤ (numerator q)) × (denominator (neg_ℚ q) ≡ denominator q)
unfolding neg_ℚ
neg_parts q =
    let l = lowest_is (numerator q) (denominator q) (is_lowest_of q) in
    frac-lowest (neg_ℤ (numerator q)) (denominator q) (lowest_in (neg_ℤ (numerator q)) (denominator q) l.0 (ap (λ k. gcd k (denominator q)) (same (numerator q)) ∙ l.1))
  where
    same : (z : ℤ) → nat_abs (neg_ℤ z) ≡ nat_abs z
    same z = omega (arith, ints)

pub narrow_back : (a q : ℚ) → IsNarrow a → IsNarrowSum a q → IsNarrowSum (a +ℚ q) (neg_ℚ q)
narrow_back a q h s = record {
  left = subst (λ k. IsNarrowWhole (numerator x *ℤ pos (k / gcd (denominator x) k))) (sym parts.1) left;
  right = subst (λ k. IsNarrowWhole (numerator (neg_ℚ q) *ℤ pos (denominator x / gcd (denominator x) k))) (sym parts.1) (subst (λ k. IsNarrowWhole (k *ℤ pos (denominator x / gcd (denominator x) e))) (sym parts.0) right);
  total = subst (λ k. IsNarrowWhole (numerator x *ℤ pos (k / gcd (denominator x) k) +ℤ numerator (neg_ℚ q) *ℤ pos (denominator x / gcd (denominator x) k))) (sym parts.1)
      (subst (λ k. IsNarrowWhole (numerator x *ℤ pos (e / gcd (denominator x) e) +ℤ k *ℤ pos (denominator x / gcd (denominator x) e))) (sym parts.0) total);
  lowest = subst IsNarrow (sym (add_neg_cancel a q)) h;
}
  where
    x : ℚ
    x = a +ℚ q

    d : ℕ
    d = denominator a

    e : ℕ
    e = denominator q

    g : ℕ
    g = gcd d e

    l : ℤ
    l = numerator a *ℤ pos (e / g)

    r : ℤ
    r = numerator q *ℤ pos (d / g)

    parts : (numerator (neg_ℚ q) ≡ neg_ℤ (numerator q)) × (denominator (neg_ℚ q) ≡ denominator q)
    parts = neg_parts q

    wide : IsScaled x (l +ℤ r) ((d / g) * e)
    wide = scaled_parts (l +ℤ r) ((d / g) * e) x (sum_over a q) (mul-pos (positive g (d / g) d (mul-div_cancel' g (gcd_is d e).0) (den_pos a)) (den_pos q))

    parted : Shares (denominator x) e (d / g) wide.by
    parted = shares (denominator x) e (d / g) wide.by (den_pos x) (den_pos q) wide.by_pos (sym wide.bottom)

    top_scaled : l +ℤ r ≡ (numerator x *ℤ pos (e / gcd (denominator x) e)) *ℤ pos parted.s
    top_scaled = wide.top ∙ times_product (numerator x) (e / gcd (denominator x) e) parted.s wide.by parted.of_h

    turned_scaled : neg_ℤ r ≡ (neg_ℤ (numerator q) *ℤ pos (denominator x / gcd (denominator x) e)) *ℤ pos parted.s
    turned_scaled = times_turned (numerator q) (denominator x / gcd (denominator x) e) parted.s (d / g) parted.of_d

    left : IsNarrowWhole (numerator x *ℤ pos (e / gcd (denominator x) e))
    left = smaller _ (l +ℤ r) parted.s parted.s_pos top_scaled s.total

    right : IsNarrowWhole (neg_ℤ (numerator q) *ℤ pos (denominator x / gcd (denominator x) e))
    right = smaller _ (neg_ℤ r) parted.s parted.s_pos turned_scaled (turned_size r s.right)

    total : IsNarrowWhole (numerator x *ℤ pos (e / gcd (denominator x) e) +ℤ neg_ℤ (numerator q) *ℤ pos (denominator x / gcd (denominator x) e))
    total = smaller _ l parted.s parted.s_pos (sym (taken l r) ∙ both (l +ℤ r) (neg_ℤ r) _ _ parted.s top_scaled turned_scaled) s.left
