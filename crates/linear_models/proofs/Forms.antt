-- Forms over the columns that their decisions are spread over.
use Rattle.std.specs.Prelude.{◌==◌, ◌≢◌}
use Rattle.std.proofs.Common.{◌≡◌, ℕ, zero, suc, ◌<◌, Bool, true, false, refl, sym, ap, ap₂, ◌∙◌, List, [], ◌∷◌, drop, length, cond, arith, subst}
use Rattle.std.proofs.lemmas.Bool.{eqb-true, eqb-false}
use Rattle.fractions.specs.Rational.{ℚ, ◌+ℚ◌, ◌-ℚ◌, ◌*ℚ◌, neg_ℚ, zero_ℚ, one_ℚ}
use Rattle.fractions.specs.Vectors.{dot, at}
use Rattle.fractions.proofs.Laws.{ring_laws, mul-zero, add-zero, zero-add, zero-mul, one-mul, mul-one}
use Rattle.fractions.proofs.Vectors.{dot-nil}
use Rattle.affine_forms.specs.Forms.{RiseFrom, sum_at, coefficient}
use Rattle.affine_forms.specs.Assigned.{assigned}
use Rattle.linear_models.specs.Standard.{spread}

-- 1 at one place and 0 elsewhere
abbrev pub unit : ℕ → ℕ → ℚ
unit zero zero = one_ℚ
unit zero (suc i) = zero_ℚ
unit (suc j) zero = zero_ℚ
unit (suc j) (suc i) = unit j i

-- the sum of the elements, each times the number for its place
abbrev pub weighted : (ℕ → ℚ) → List ℚ → ℚ
weighted c [] = zero_ℚ
weighted c (x ∷ xs) = c 0 *ℚ x +ℚ weighted (λ j. c (suc j)) xs

pub weighted-zero : (a : List ℚ) → weighted (λ j. zero_ℚ) a ≡ zero_ℚ
weighted-zero [] = refl
weighted-zero (x ∷ xs) = ap₂ ◌+ℚ◌ (zero-mul x) (weighted-zero xs) ∙ add-zero zero_ℚ

pub weighted-unit : (j : ℕ) (a : List ℚ) → weighted (unit j) a ≡ at a j
weighted-unit j [] = refl
weighted-unit zero (x ∷ xs) = ap₂ ◌+ℚ◌ (one-mul x) (weighted-zero xs) ∙ add-zero x
weighted-unit (suc j) (x ∷ xs) = ap₂ ◌+ℚ◌ (zero-mul x) (weighted-unit j xs) ∙ zero-add _

regrouped : (k c d x p q : ℚ) → (k *ℚ c +ℚ d) *ℚ x +ℚ (k *ℚ p +ℚ q) ≡ k *ℚ (c *ℚ x +ℚ p) +ℚ (d *ℚ x +ℚ q)
regrouped k c d x p q = simp ring_laws

pub weighted-sum : (k : ℚ) (c d : ℕ → ℚ) (a : List ℚ) → weighted (λ j. k *ℚ c j +ℚ d j) a ≡ k *ℚ weighted c a +ℚ weighted d a
weighted-sum k c d [] = sym (ap (λ t. t +ℚ zero_ℚ) (mul-zero k) ∙ add-zero zero_ℚ)
weighted-sum k c d (x ∷ xs) = ap (λ t. (k *ℚ c 0 +ℚ d 0) *ℚ x +ℚ t) (weighted-sum k (λ j. c (suc j)) (λ j. d (suc j)) xs) ∙ regrouped k (c 0) (d 0) x _ _

-- ---- coefficients
-- the sum of all coefficients of a decision
abbrev pub summed_coefficient : List (ℕ × ℚ) → ℕ → ℚ
summed_coefficient [] j = zero_ℚ
summed_coefficient (t ∷ ts) j = t.1 *ℚ unit t.0 j +ℚ summed_coefficient ts j

pub unit_same : (j : ℕ) → unit j j ≡ one_ℚ
unit_same zero = refl
unit_same (suc j) = unit_same j

unit_other : (j i : ℕ) → j ≢ i → unit j i ≡ zero_ℚ
unit_other zero zero n = absurd (n refl)
unit_other zero (suc i) n = refl
unit_other (suc j) zero n = refl
unit_other (suc j) (suc i) n = unit_other j i (λ e. n (ap suc e))

pub term_other : (c : ℚ) (j i : ℕ) → j ≢ i → c *ℚ unit j i ≡ zero_ℚ
term_other c j i n = ap (λ t. c *ℚ t) (unit_other j i n) ∙ mul-zero c

pub summed_before : (ts : List (ℕ × ℚ)) (k i : ℕ) → RiseFrom k ts → i < k → summed_coefficient ts i ≡ zero_ℚ
summed_before [] k i r h = refl
summed_before (t ∷ ts) k i r h = ap₂ ◌+ℚ◌ (term_other t.1 t.0 i (λ e. absurd (omega (arith, r.0, e)))) (summed_before ts (suc t.0) i r.2 (omega (arith, r.0))) ∙ add-zero zero_ℚ

-- of rising terms one has the decision
pub coefficient_is : (ts : List (ℕ × ℚ)) (k j : ℕ) → RiseFrom k ts → coefficient ts j ≡ summed_coefficient ts j
coefficient_is [] k j r = refl
coefficient_is (t ∷ ts) k j r = cases (t.0 == j) refl (coefficient_is ts (suc t.0) j r.2)
  where
    this : t.0 ≡ j → t.1 ≡ t.1 *ℚ unit t.0 j +ℚ summed_coefficient ts j
    this e = subst (λ i. t.1 ≡ t.1 *ℚ unit t.0 i +ℚ summed_coefficient ts i) e (sym (ap₂ ◌+ℚ◌ (ap (λ u. t.1 *ℚ u) (unit_same t.0) ∙ mul-one t.1) (summed_before ts (suc t.0) t.0 r.2 (omega arith)) ∙ add-zero t.1))

    cases : (b : Bool) → (t.0 == j) ≡ b → coefficient ts j ≡ summed_coefficient ts j → cond b t.1 (coefficient ts j) ≡ t.1 *ℚ unit t.0 j +ℚ summed_coefficient ts j
    cases true e h = this (eqb-true t.0 j e)
    cases false e h = h ∙ sym (ap (λ s. s +ℚ summed_coefficient ts j) (term_other t.1 t.0 j (eqb-false t.0 j e)) ∙ zero-add _)

-- the terms' sum is that of all coefficients
terms-summed : (ts : List (ℕ × ℚ)) (a : List ℚ) → sum_at (assigned a) ts ≡ weighted (summed_coefficient ts) a
terms-summed [] a = sym (weighted-zero a)
terms-summed (t ∷ ts) a =
    ap₂ (λ x y. t.1 *ℚ x +ℚ y) (sym (weighted-unit t.0 a)) (terms-summed ts a) ∙ sym (weighted-sum t.1 (unit t.0) (summed_coefficient ts) a)

weighted-same : (c d : ℕ → ℚ) (a : List ℚ) → ((j : ℕ) → c j ≡ d j) → weighted c a ≡ weighted d a
weighted-same c d [] h = refl
weighted-same c d (x ∷ xs) h = ap₂ (λ s t. s *ℚ x +ℚ t) (h 0) (weighted-same _ _ xs (λ j. h (suc j)))

pub terms-weighted : (ts : List (ℕ × ℚ)) (k : ℕ) (a : List ℚ) → RiseFrom k ts → sum_at (assigned a) ts ≡ weighted (coefficient ts) a
terms-weighted ts k a r = terms-summed ts a ∙ weighted-same _ _ a (λ j. sym (coefficient_is ts k j r))

-- ---- columns
-- the decisions that the columns stand for
abbrev pub joined : List Bool → List ℚ → List ℚ
joined [] y = []
joined (false ∷ splits) y = at y 0 ∷ joined splits (drop 1 y)
joined (true ∷ splits) y = (at y 0 -ℚ at y 1) ∷ joined splits (drop 2 y)

dot-cons : (x : ℚ) (xs y : List ℚ) → dot (x ∷ xs) y ≡ x *ℚ at y 0 +ℚ dot xs (drop 1 y)
dot-cons x xs [] = sym (ap₂ ◌+ℚ◌ (mul-zero x) (dot-nil xs) ∙ add-zero zero_ℚ)
dot-cons x xs (z ∷ y) = refl

two_dropped : (y : List ℚ) → drop 1 (drop 1 y) ≡ drop 2 y
two_dropped [] = refl
two_dropped (x ∷ []) = refl
two_dropped (x ∷ z ∷ y) = refl

second : (y : List ℚ) → at (drop 1 y) 0 ≡ at y 1
second [] = refl
second (x ∷ []) = refl
second (x ∷ z ∷ y) = refl

difference : (c x z p : ℚ) → c *ℚ x +ℚ (neg_ℚ c *ℚ z +ℚ p) ≡ c *ℚ (x -ℚ z) +ℚ p
difference c x z p = simp ring_laws

pub dot-spread : (splits : List Bool) (c : ℕ → ℚ) (y : List ℚ) → dot (spread splits c) y ≡ weighted c (joined splits y)
dot-spread [] c y = refl
dot-spread (false ∷ splits) c y = dot-cons _ _ y ∙ ap (λ t. c 0 *ℚ at y 0 +ℚ t) (dot-spread splits (λ j. c (suc j)) (drop 1 y))
dot-spread (true ∷ splits) c y =
    dot-cons (c 0) (neg_ℚ (c 0) ∷ spread splits (λ j. c (suc j))) y
    ∙ ap (λ t. c 0 *ℚ at y 0 +ℚ t) (dot-cons (neg_ℚ (c 0)) (spread splits (λ j. c (suc j))) (drop 1 y) ∙ ap₂ (λ u v. neg_ℚ (c 0) *ℚ u +ℚ v) (second y) (dot-spread splits (λ j. c (suc j)) (drop 1 (drop 1 y)) ∙ ap (λ w. weighted (λ j. c (suc j)) (joined splits w)) (two_dropped y)))
    ∙ difference (c 0) (at y 0) (at y 1) _

pub dot-spread_terms : (splits : List Bool) (ts : List (ℕ × ℚ)) (y : List ℚ) → RiseFrom 0 ts → dot (spread splits (coefficient ts)) y ≡ sum_at (assigned (joined splits y)) ts
dot-spread_terms splits ts y r = dot-spread splits (coefficient ts) y ∙ sym (terms-weighted ts 0 (joined splits y) r)

pub length-joined : (splits : List Bool) (y : List ℚ) → length (joined splits y) ≡ length splits
length-joined [] y = refl
length-joined (false ∷ splits) y = ap suc (length-joined splits (drop 1 y))
length-joined (true ∷ splits) y = ap suc (length-joined splits (drop 2 y))
