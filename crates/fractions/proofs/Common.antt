-- Fractions over one denominator: what linear arithmetic proves of p / d, q / d, .. it proves of all.
use Rattle.std.proofs.Common.{◌≡◌, ℕ, ◌+◌, ◌*◌, ◌<◌, ◌≤◌, sym, ap, ap₂, ◌∙◌, subst, arith, mul-pos, ◌↔◌, mul-le-mul_right, le_of_mul-le-mul_right, zero, suc, List, [], ◌∷◌, ℤ, pos, ◌*ℤ◌, ◌-ℤ◌}
use Rattle.std.proofs.lemmas.Int.{ints}
use borrow.Author.Differences.{up, down}
use Rattle.fractions.specs.Rational.{ℚ, ◌+ℚ◌, ◌*ℚ◌, ◌≤ℚ◌, zero_ℚ, one_ℚ, frac, ◌<ℚ◌}
use Rattle.fractions.proofs.Split.{mk, mk_same, by_parts, add_mk, neg_mk, zero_mk, one_mk, le_mk, diff_is}
use Rattle.fractions.proofs.School.{frac-mul}
use Rattle.fractions.proofs.Tests.{lt_iff}

-- ---- a proof for fractions p / d, q / d, .. of one denominator is one for all
pub widened : (p n d e : ℕ) → 0 < d → 0 < e → mk (p * e) (n * e) (d * e) ≡ mk p n d
widened p n d e hd he = mk_same (p * e) (n * e) (d * e) p n d (mul-pos hd he) hd (omega arith)

pub by_common₂ : (P : ℚ → ℚ → Type 0) → ((p n q m d : ℕ) → 0 < d → P (mk p n d) (mk q m d)) → (x y : ℚ) → P x y
by_common₂ P c =
    by_parts (λ x. (y : ℚ) → P x y) (λ p n d hd. by_parts (λ y. P (mk p n d) y) (λ q m e he.
    subst (λ x. P x (mk q m e)) (widened p n d e hd he)
    (subst (λ y. P (mk (p * e) (n * e) (d * e)) y) (widened q m e d he hd)
    (subst (λ k. P (mk (p * e) (n * e) (d * e)) (mk (q * d) (m * d) k)) (swapped d e) (c (p * e) (n * e) (q * d) (m * d) (d * e) (mul-pos hd he))))))
  where
    swapped : (d e : ℕ) → d * e ≡ e * d
    swapped d e = omega arith

pub by_common₃ : (P : ℚ → ℚ → ℚ → Type 0) → ((p n q m r o d : ℕ) → 0 < d → P (mk p n d) (mk q m d) (mk r o d)) → (x y z : ℚ) → P x y z
by_common₃ P c =
    by_common₂ (λ x y. (z : ℚ) → P x y z) (λ p n q m d hd. by_parts (λ z. P (mk p n d) (mk q m d) z) (λ r o e he.
    subst (λ x. P x (mk q m d) (mk r o e)) (widened p n d e hd he)
    (subst (λ y. P (mk (p * e) (n * e) (d * e)) y (mk r o e)) (widened q m d e hd he)
    (subst (λ z. P (mk (p * e) (n * e) (d * e)) (mk (q * e) (m * e) (d * e)) z) (widened r o e d he hd)
    (subst (λ k. P (mk (p * e) (n * e) (d * e)) (mk (q * e) (m * e) (d * e)) (mk (r * d) (o * d) k)) (swapped d e)
    (c (p * e) (n * e) (q * e) (m * e) (r * d) (o * d) (d * e) (mul-pos hd he)))))))
  where
    swapped : (d e : ℕ) → d * e ≡ e * d
    swapped d e = omega arith

pub add_same : (p n q m d : ℕ) → 0 < d → mk p n d +ℚ mk q m d ≡ mk (p + q) (n + m) d
add_same p n q m d hd = add_mk p n d q m d hd hd ∙ mk_same (p * d + q * d) (n * d + m * d) (d * d) (p + q) (n + m) d (mul-pos hd hd) hd (omega arith)

pub zero_same : (d : ℕ) → 0 < d → zero_ℚ ≡ mk 0 0 d
zero_same d hd = zero_mk ∙ mk_same 0 0 1 0 0 d (omega arith) hd (omega arith)

pub one_same : (d : ℕ) → 0 < d → one_ℚ ≡ mk d 0 d
one_same d hd = one_mk ∙ mk_same 1 0 1 d 0 d (omega arith) hd (omega arith)

pub le_same : (p n q m d : ℕ) → 0 < d → (mk p n d ≤ℚ mk q m d) ↔ (p + m ≤ q + n)
le_same p n q m d hd =
    let i = le_mk p n d q m d hd hd in
    (λ h. cancelled (i.0 h), λ h. i.1 (omega (arith, mul-le-mul_right {m = p + m} {n = q + n} d h)))
  where
    cancelled : p * d + m * d ≤ q * d + n * d → p + m ≤ q + n
    cancelled h = let j : (p + m) * d ≤ (q + n) * d = omega arith in le_of_mul-le-mul_right j hd

pub eq_same : (p n q m d : ℕ) → 0 < d → p + m ≡ q + n → mk p n d ≡ mk q m d
eq_same p n q m d hd e = mk_same p n d q m d hd hd (omega (arith, ap (λ x. x * d) e))

-- ---- more facts at one denominator
pub eq_same_iff : (p n q m d : ℕ) → 0 < d → (mk p n d ≡ mk q m d) ↔ (p + m ≡ q + n)
eq_same_iff p n q m d hd = (
  λ e. both (le_same p n q m d hd) (le_same q m p n d hd) (subst (λ x. mk p n d ≤ℚ x) e self) (subst (λ x. x ≤ℚ mk p n d) e self),
  λ e. eq_same p n q m d hd e,
)
  where
    self : mk p n d ≤ℚ mk p n d
    self = (le_same p n p n d hd).1 (omega arith)

    both : (mk p n d ≤ℚ mk q m d) ↔ (p + m ≤ q + n) → (mk q m d ≤ℚ mk p n d) ↔ (q + n ≤ p + m) → mk p n d ≤ℚ mk q m d → mk q m d ≤ℚ mk p n d → p + m ≡ q + n
    both f g h i = let j : p + m ≤ q + n = f.0 h in let k : q + n ≤ p + m = g.0 i in omega arith

pub lt_same : (p n q m d : ℕ) → 0 < d → (mk p n d <ℚ mk q m d) ↔ (p + m < q + n)
lt_same p n q m d hd =
    let l = le_same q m p n d hd in
    let i = lt_iff (mk p n d) (mk q m d) in
    (λ h. down (λ k. i.0 h (l.1 k)), λ h. i.1 (λ k. up h (l.0 k)))
  where
    down : ¬ (q + n ≤ p + m) → p + m < q + n
    down h = omega arith

    up : p + m < q + n → q + n ≤ p + m → ⊥
    up h k = omega arith

-- a whole number times a fraction
pub whole_times : (k p n d : ℕ) → 0 < d → frac (pos k) 1 *ℚ mk p n d ≡ mk (k * p) (k * n) d
unfolding mk
whole_times k p n d hd = frac-mul (pos k) (pos p -ℤ pos n) 1 d (omega arith) hd ∙ ap₂ frac (scaled (pos p -ℤ pos n) (diff_is p n)) (omega arith)
  where
    scaled : (z : ℤ) → up z + n ≡ down z + p → pos k *ℤ z ≡ pos (k * p) -ℤ pos (k * n)
    scaled z e = omega (arith, ints, ap (λ t. k * t) e)

pub ruleset linear = (add_same, neg_mk, le_same, lt_same, eq_same_iff, whole_times)

-- ---- any number of fractions over one denominator
abbrev pub place : List ℚ → ℕ → ℚ
place [] i = zero_ℚ
place (x ∷ xs) zero = x
place (x ∷ xs) (suc i) = place xs i

pub record Common (xs : List ℚ) : Type 0 where
  pub d : ℕ
  pub some : 0 < d
  pub p : ℕ → ℕ
  pub n : ℕ → ℕ
  pub each : (i : ℕ) → place xs i ≡ mk (p i) (n i) d

abbrev first_or : ℕ → (ℕ → ℕ) → ℕ → ℕ
first_or a f zero = a
first_or a f (suc i) = f i

one_more : (p n e : ℕ) → 0 < e → (xs : List ℚ) → Common xs → Common (mk p n e ∷ xs)
one_more p n e he xs c = record {
  d = c.d * e;
  some = mul-pos c.some he;
  p = first_or (p * c.d) (λ i. c.p i * e);
  n = first_or (n * c.d) (λ i. c.n i * e);
  each = elim [
    | zero ↦ mk_same p n e (p * c.d) (n * c.d) (c.d * e) he (mul-pos c.some he) (omega arith)
    | suc i ↦ c.each i ∙ sym (widened (c.p i) (c.n i) c.d e c.some he)
  ];
}

pub common : (xs : List ℚ) → Common xs
common [] = record { d = 1; some = omega arith; p = λ i. 0; n = λ i. 0; each = λ i. zero_mk }
common (x ∷ xs) = by_parts (λ x. Common (x ∷ xs)) (λ p n e he. one_more p n e he xs (common xs)) x

pub by_common₄ : (P : ℚ → ℚ → ℚ → ℚ → Type 0)
    → ((p n q m r o s u d : ℕ) → 0 < d → P (mk p n d) (mk q m d) (mk r o d) (mk s u d)) → (x y z w : ℚ) → P x y z w
by_common₄ P f x y z w =
    let c = common (x ∷ y ∷ z ∷ w ∷ []) in along x y z w _ _ _ _ (c.each 0) (c.each 1) (c.each 2) (c.each 3)
    (f (c.p 0) (c.n 0) (c.p 1) (c.n 1) (c.p 2) (c.n 2) (c.p 3) (c.n 3) c.d c.some)
  where
    along : (x y z w x' y' z' w' : ℚ) → x ≡ x' → y ≡ y' → z ≡ z' → w ≡ w' → P x' y' z' w' → P x y z w
    along x y z w x' y' z' w' a b c d h = rw (a, b, c, d) h

pub by_common₅ : (P : ℚ → ℚ → ℚ → ℚ → ℚ → Type 0)
    → ((p n q m r o s u a b d : ℕ) → 0 < d → P (mk p n d) (mk q m d) (mk r o d) (mk s u d) (mk a b d)) → (x y z w v : ℚ) → P x y z w v
by_common₅ P g x y z w v =
    let c = common (x ∷ y ∷ z ∷ w ∷ v ∷ []) in along x y z w v _ _ _ _ _ (c.each 0) (c.each 1) (c.each 2) (c.each 3) (c.each 4)
    (g (c.p 0) (c.n 0) (c.p 1) (c.n 1) (c.p 2) (c.n 2) (c.p 3) (c.n 3) (c.p 4) (c.n 4) c.d c.some)
  where
    along : (x y z w v x' y' z' w' v' : ℚ) → x ≡ x' → y ≡ y' → z ≡ z' → w ≡ w' → v ≡ v' → P x' y' z' w' v' → P x y z w v
    along x y z w v x' y' z' w' v' h0 h1 h2 h3 h4 h = rw (h0, h1, h2, h3, h4) h

pub by_common₆ : (P : ℚ → ℚ → ℚ → ℚ → ℚ → ℚ → Type 0)
    → ((p n q m r o s u a b e f d : ℕ) → 0 < d → P (mk p n d) (mk q m d) (mk r o d) (mk s u d) (mk a b d) (mk e f d)) → (x y z w v t : ℚ) → P x y z w v t
by_common₆ P g x y z w v t =
    let c = common (x ∷ y ∷ z ∷ w ∷ v ∷ t ∷ []) in along x y z w v t _ _ _ _ _ _ (c.each 0) (c.each 1) (c.each 2) (c.each 3) (c.each 4) (c.each 5)
    (g (c.p 0) (c.n 0) (c.p 1) (c.n 1) (c.p 2) (c.n 2) (c.p 3) (c.n 3) (c.p 4) (c.n 4) (c.p 5) (c.n 5) c.d c.some)
  where
    along : (x y z w v t x' y' z' w' v' t' : ℚ) → x ≡ x' → y ≡ y' → z ≡ z' → w ≡ w' → v ≡ v' → t ≡ t' → P x' y' z' w' v' t' → P x y z w v t
    along x y z w v t x' y' z' w' v' t' h0 h1 h2 h3 h4 h5 h = rw (h0, h1, h2, h3, h4, h5) h
