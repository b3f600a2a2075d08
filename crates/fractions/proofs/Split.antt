-- A fraction by two natural numbers, (p - n) / d: equations and orders between those are facts of natural numbers, which `omega` proves.
use Rattle.std.proofs.Common.{◌≡◌, ℕ, ◌+◌, ◌*◌, ◌<◌, refl, sym, ap, ◌∙◌, subst, arith, ℤ, pos, ◌-ℤ◌, ◌*ℤ◌, neg_ℤ, T, ◌≤◌, ◌+ℤ◌, ◌↔◌}
use Rattle.std.proofs.lemmas.Int.{ints}
use borrow.Author.Differences.{up, down, le_in}
use Rattle.std.specs.Prelude.{int_le}
use Rattle.fractions.specs.Rational.{ℚ, numerator, denominator, frac, ◌+ℚ◌, ◌*ℚ◌, neg_ℚ, ◌≤ℚ◌, zero_ℚ, one_ℚ, computed}
use Rattle.fractions.proofs.Parts.{frac_same, frac_self, den_pos}
use Rattle.fractions.proofs.School.{frac-add, frac-mul, frac-neg, frac-le}

-- ---- a fraction by two natural numbers, (p - n) / d: equations between those are equations in ℕ, which `omega` proves
unfoldable pub mk : ℕ → ℕ → ℕ → ℚ
mk p n d = frac (pos p -ℤ pos n) d

pub diff_is : (p n : ℕ) → up (pos p -ℤ pos n) + n ≡ down (pos p -ℤ pos n) + p
diff_is p n = omega (arith, ints)

parts_is : (z : ℤ) → pos (up z) -ℤ pos (down z) ≡ z
parts_is z = omega (arith, ints)

pub by_parts : (P : ℚ → Type 0) → ((p n d : ℕ) → 0 < d → P (mk p n d)) → (x : ℚ) → P x
unfolding mk
by_parts P c x = subst P (ap (λ z. frac z (denominator x)) (parts_is (numerator x)) ∙ frac_self x) (c (up (numerator x)) (down (numerator x)) (denominator x) (den_pos x))

pub mk_same : (p n d q m e : ℕ) → 0 < d → 0 < e → p * e + m * d ≡ q * d + n * e → mk p n d ≡ mk q m e
unfolding mk
mk_same p n d q m e hd he h = frac_same _ _ d e hd he (crossed _ _ (diff_is p n) (diff_is q m))
  where
    crossed : (a b : ℤ) → up a + n ≡ down a + p → up b + m ≡ down b + q → a *ℤ pos e ≡ b *ℤ pos d
    crossed a b s t = omega (arith, ints, h, ap (λ x. x * e) s, ap (λ x. x * d) t)

-- ---- the same at `mk`
sum_parts : (a b : ℤ) (p n q m d e : ℕ) → up a + n ≡ down a + p → up b + m ≡ down b + q
    → a *ℤ pos e +ℤ b *ℤ pos d ≡ pos (p * e + q * d) -ℤ pos (n * e + m * d)
sum_parts a b p n q m d e s t = omega (arith, ints, ap (λ x. x * e) s, ap (λ x. x * d) t)

pub add_mk : (p n d q m e : ℕ) → 0 < d → 0 < e → mk p n d +ℚ mk q m e ≡ mk (p * e + q * d) (n * e + m * d) (d * e)
unfolding mk
add_mk p n d q m e hd he =
    frac-add _ _ d e hd he ∙ ap (λ z. frac z (d * e)) (sum_parts (pos p -ℤ pos n) (pos q -ℤ pos m) p n q m d e (diff_is p n) (diff_is q m))

product_parts : (a b : ℤ) (p n q m : ℕ) → up a + n ≡ down a + p → up b + m ≡ down b + q
    → a *ℤ b ≡ pos (p * q + n * m) -ℤ pos (p * m + n * q)
product_parts a b p n q m s t = omega (arith, ints, ap (λ x. x * up b) s, ap (λ x. x * down b) s, ap (λ x. x * p) t, ap (λ x. x * n) t)

pub mul_mk : (p n d q m e : ℕ) → 0 < d → 0 < e → mk p n d *ℚ mk q m e ≡ mk (p * q + n * m) (p * m + n * q) (d * e)
unfolding mk
mul_mk p n d q m e hd he =
    frac-mul _ _ d e hd he ∙ ap (λ z. frac z (d * e)) (product_parts (pos p -ℤ pos n) (pos q -ℤ pos m) p n q m (diff_is p n) (diff_is q m))

pub neg_mk : (p n d : ℕ) → 0 < d → neg_ℚ (mk p n d) ≡ mk n p d
unfolding mk
neg_mk p n d hd = frac-neg _ d hd ∙ ap (λ z. frac z d) turned
  where
    turned : neg_ℤ (pos p -ℤ pos n) ≡ pos n -ℤ pos p
    turned = omega (arith, ints)

pub zero_mk : zero_ℚ ≡ mk 0 0 1
unfolding mk computed
zero_mk = refl

pub one_mk : one_ℚ ≡ mk 1 0 1
unfolding mk computed
one_mk = refl

le_parts : (a b : ℤ) (p n q m d e : ℕ) → up a + n ≡ down a + p → up b + m ≡ down b + q
    → T (int_le (a *ℤ pos e) (b *ℤ pos d)) ↔ (p * e + m * d ≤ q * d + n * e)
le_parts a b p n q m d e s t = (
  λ h. omega (arith, ints, ap (λ x. x * e) s, ap (λ x. x * d) t),
  λ h. le_in (a *ℤ pos e) (b *ℤ pos d) (omega (arith, ints, ap (λ x. x * e) s, ap (λ x. x * d) t)),
)

pub le_mk : (p n d q m e : ℕ) → 0 < d → 0 < e → (mk p n d ≤ℚ mk q m e) ↔ (p * e + m * d ≤ q * d + n * e)
unfolding mk
le_mk p n d q m e hd he =
    let i = le_parts (pos p -ℤ pos n) (pos q -ℤ pos m) p n q m d e (diff_is p n) (diff_is q m) in
    let t = frac-le (pos p -ℤ pos n) (pos q -ℤ pos m) d e hd he in
    (λ h. i.0 (subst T t h.at_most), λ h. record { at_most = subst T (sym t) (i.1 h) })
