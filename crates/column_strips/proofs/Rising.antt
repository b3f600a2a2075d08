-- Lists that rise, with an element more or one less.
use Rattle.std.proofs.Common.{◌≡◌, ◌≢◌, ℕ, zero, suc, ◌<◌, ◌≤◌, Bool, true, false, List, [], ◌∷◌, length, set, refl, sym, ap, ◌∙◌, arith, ◌⊎◌, inl, inr}
use Rattle.std.specs.Prelude.{◌||◌, Some, slice_get}
use Rattle.std.specs.Cmp.{IsTotalOrder}
use Rattle.std.specs.List.{insert, list_any, remove}
use Rattle.std.specs.Ordering.{eq_by_cmp, ordering_reverse}
use Rattle.std.specs.declared.cmp.Ordering.{Ordering}
use Rattle.std.specs.declared.cmp.Ordering.TheVariants.{Less, Equal, Greater}
use Rattle.std.proofs.lemmas.Bool.{cases_order}
use Rattle.std.proofs.lemmas.Option.{same_Some}
use Rattle.column_strips.specs.Formulas.{IsRising}
use Rattle.column_strips.proofs.Tests.{is_equal, or_swap, refused}

module _ {X : Type 0} where
  -- ---- what stands where
  pub get_insert : (xs : List X) (p : ℕ) (x : X) (i : ℕ) (y : X) → p ≤ length xs → slice_get (insert xs p x) i ≡ Some y
      → ((i < p) × (slice_get xs i ≡ Some y)) ⊎ (((i ≡ p) × (x ≡ y)) ⊎ ((j : ℕ) × (suc j ≡ i) × (p ≤ j) × (slice_get xs j ≡ Some y)))
  get_insert xs zero x zero y h g = inr (inl (refl, same_Some x y g))
  get_insert xs zero x (suc i) y h g = inr (inr (i, refl, omega arith, g))
  get_insert [] (suc p) x i y h g = absurd (omega (arith, h))
  get_insert (z ∷ xs) (suc p) x zero y h g = inl (omega arith, g)
  get_insert (z ∷ xs) (suc p) x (suc i) y h g =
      let G : Type 0 = ((suc i < suc p) × (slice_get xs i ≡ Some y)) ⊎ (((suc i ≡ suc p) × (x ≡ y)) ⊎ ((j : ℕ) × (suc j ≡ suc i) × (suc p ≤ j) × (slice_get (z ∷ xs) j ≡ Some y))) in
      elim (get_insert xs p x i y (omega (arith, h)) g) as (λ _. G) [
        | inl u ↦ inl (omega (arith, u.0), u.1)
        | inr u ↦ elim u as (λ _. G) [
          | inl v ↦ inr (inl (ap suc v.0, v.1))
          | inr v ↦ inr (inr (suc v.0, ap suc v.1, omega (arith, v.2), v.3))
        ]
      ]

  pub get_remove : (xs : List X) (p i : ℕ) (y : X) → p < length xs → slice_get (remove xs p) i ≡ Some y
      → (j : ℕ) × (slice_get xs j ≡ Some y) × (((i < p) × (j ≡ i)) ⊎ ((p ≤ i) × (j ≡ suc i)))
  get_remove [] p i y h g = absurd (omega (arith, h))
  get_remove (z ∷ xs) zero i y h g = (suc i, g, inr (omega arith, refl))
  get_remove (z ∷ xs) (suc p) zero y h g = (zero, g, inl (omega arith, refl))
  get_remove (z ∷ xs) (suc p) (suc i) y h g =
      let r = get_remove xs p i y (omega (arith, h)) g in (
        suc r.0,
        r.1,
        elim r.2 as (λ _. ((suc i < suc p) × (suc r.0 ≡ suc i)) ⊎ ((suc p ≤ suc i) × (suc r.0 ≡ suc (suc i)))) [
          | inl w ↦ inl (omega (arith, w.0), ap suc w.1)
          | inr w ↦ inr (omega (arith, w.0), ap suc w.1)
        ],
      )

  pub get_set_same : (xs : List X) (p : ℕ) (x : X) → p < length xs → slice_get (set xs p x) p ≡ Some x
  get_set_same [] p x h = absurd (omega (arith, h))
  get_set_same (z ∷ xs) zero x h = refl
  get_set_same (z ∷ xs) (suc p) x h = get_set_same xs p x (omega (arith, h))

  pub get_set_other : (xs : List X) (p : ℕ) (x : X) (i : ℕ) → i ≢ p → slice_get (set xs p x) i ≡ slice_get xs i
  get_set_other [] p x i n = refl
  get_set_other (z ∷ xs) zero x zero n = absurd (n refl)
  get_set_other (z ∷ xs) zero x (suc i) n = refl
  get_set_other (z ∷ xs) (suc p) x zero n = refl
  get_set_other (z ∷ xs) (suc p) x (suc i) n = get_set_other xs p x i (λ e. n (ap suc e))

  -- where something stands, something stands earlier
  pub get_earlier : (xs : List X) (p n : ℕ) (t : X) → p ≤ n → slice_get xs n ≡ Some t → (x : X) × (slice_get xs p ≡ Some x)
  get_earlier [] p n t l h = cc
  get_earlier (y ∷ xs) zero n t l h = (y, refl)
  get_earlier (y ∷ xs) (suc p) zero t l h = absurd (omega (arith, l))
  get_earlier (y ∷ xs) (suc p) (suc n) t l h = get_earlier xs p n t (omega (arith, l)) h

  -- ---- what passes a test
  pub any_insert : (t : X → Bool) (xs : List X) (p : ℕ) (x : X) → list_any t (insert xs p x) ≡ (t x || list_any t xs)
  any_insert t xs zero x = refl
  any_insert t [] (suc p) x = refl
  any_insert t (z ∷ xs) (suc p) x = ap (λ b. t z || b) (any_insert t xs p x) ∙ or_swap (t z) (t x) (list_any t xs)

  pub any_remove : (t : X → Bool) (xs : List X) (p : ℕ) (x : X) → slice_get xs p ≡ Some x → list_any t xs ≡ (t x || list_any t (remove xs p))
  any_remove t [] p x at = cc
  any_remove t (z ∷ xs) zero x at = ap (λ w. t w || list_any t xs) (same_Some z x at)
  any_remove t (z ∷ xs) (suc p) x at = ap (λ b. t z || b) (any_remove t xs p x at) ∙ or_swap (t z) (t x) (list_any t (remove xs p))

  -- one that passes, at its place
  pub one_passes : (t : X → Bool) (xs : List X) → list_any t xs ≡ true → (i : ℕ) × (x : X) × (slice_get xs i ≡ Some x) × (t x ≡ true)
  one_passes t [] h = cc
  one_passes t (z ∷ xs) h =
      elim (t z) as (λ b. t z ≡ b → (b || list_any t xs) ≡ true → (i : ℕ) × (x : X) × (slice_get (z ∷ xs) i ≡ Some x) × (t x ≡ true)) [
        | true ↦ λ e h. (zero, z, refl, e)
        | false ↦ λ e h. let r = one_passes t xs h in (suc r.0, r.1, r.2, r.3)
      ] refl h

  pub passes_one : (t : X → Bool) (xs : List X) (i : ℕ) (x : X) → slice_get xs i ≡ Some x → t x ≡ true → list_any t xs ≡ true
  passes_one t [] i x at h = cc
  passes_one t (z ∷ xs) zero x at h = ap (λ w. t w || list_any t xs) (same_Some z x at) ∙ ap (λ b. b || list_any t xs) h
  passes_one t (z ∷ xs) (suc i) x at h =
      elim (t z) as (λ b. (b || list_any t xs) ≡ true) [ true ↦ refl | false ↦ passes_one t xs i x at h ]

  -- ---- order
  module _ (cmp : X → X → Ordering) where
    pub rising_insert : (xs : List X) (p : ℕ) (x : X) → p ≤ length xs → IsRising cmp xs
        → ((k : ℕ) (y : X) → k < p → slice_get xs k ≡ Some y → cmp y x ≡ Less) → ((k : ℕ) (y : X) → p ≤ k → slice_get xs k ≡ Some y → cmp x y ≡ Less)
        → IsRising cmp (insert xs p x)
    rising_insert xs p x h up below above i j a b l at is =
        elim (get_insert xs p x i a h at) as (λ _. cmp a b ≡ Less) [
          | inl u ↦ elim (get_insert xs p x j b h is) as (λ _. cmp a b ≡ Less) [
            | inl v ↦ up i j a b l u.1 v.1
            | inr v ↦ elim v as (λ _. cmp a b ≡ Less) [
              | inl w ↦ ap (cmp a) (sym w.1) ∙ below i a u.0 u.1
              | inr w ↦ up i w.0 a b (omega (arith, u.0, w.2)) u.1 w.3
            ]
          ]
          | inr u ↦ elim u as (λ _. cmp a b ≡ Less) [
            | inl u ↦ elim (get_insert xs p x j b h is) as (λ _. cmp a b ≡ Less) [
              | inl v ↦ absurd (omega (arith, l, u.0, v.0))
              | inr v ↦ elim v as (λ _. cmp a b ≡ Less) [
                | inl w ↦ absurd (omega (arith, l, u.0, w.0))
                | inr w ↦ ap (λ z. cmp z b) (sym u.1) ∙ above w.0 b w.2 w.3
              ]
            ]
            | inr u ↦ elim (get_insert xs p x j b h is) as (λ _. cmp a b ≡ Less) [
              | inl v ↦ absurd (omega (arith, l, u.1, u.2, v.0))
              | inr v ↦ elim v as (λ _. cmp a b ≡ Less) [
                | inl w ↦ absurd (omega (arith, l, u.1, u.2, w.0))
                | inr w ↦ up u.0 w.0 a b (omega (arith, l, u.1, w.1)) u.3 w.3
              ]
            ]
          ]
        ]

    later : (p i j u v : ℕ) → i < j → ((i < p) × (u ≡ i)) ⊎ ((p ≤ i) × (u ≡ suc i)) → ((j < p) × (v ≡ j)) ⊎ ((p ≤ j) × (v ≡ suc j)) → u < v
    later p i j u v l (inl a) (inl b) = omega (arith, l, a.1, b.1)
    later p i j u v l (inl a) (inr b) = omega (arith, l, a.1, b.1)
    later p i j u v l (inr a) (inl b) = absurd (omega (arith, l, a.0, b.0))
    later p i j u v l (inr a) (inr b) = omega (arith, l, a.1, b.1)

    pub rising_remove : (xs : List X) (p : ℕ) → p < length xs → IsRising cmp xs → IsRising cmp (remove xs p)
    rising_remove xs p h up i j a b l at is =
        let u = get_remove xs p i a h at in
        let v = get_remove xs p j b h is in
        up u.0 v.0 a b (later p i j u.0 v.0 l u.2 v.2) u.1 v.1

    module _ (o : IsTotalOrder cmp) where
      -- two that tie stand at one place
      pub one_place : (xs : List X) → IsRising cmp xs → (i j : ℕ) (x y : X) → slice_get xs i ≡ Some x → slice_get xs j ≡ Some y → cmp x y ≡ Equal → i ≡ j
      one_place xs up i j x y at is tie =
          elim (cases_order i j) as (λ _. i ≡ j) [
            | inl e ↦ e
            | inr w ↦ elim w as (λ _. i ≡ j) [
              | inl l ↦ let less = up i j x y l at is in cc
              | inr l ↦ let less = up j i y x l is at in let more : cmp x y ≡ Greater = o.antisymm x y ∙ ap ordering_reverse less in cc
            ]
          ]

      -- what ties with one of them ties with none of the others
      pub none_left : (xs : List X) (p : ℕ) (x : X) → IsRising cmp xs → slice_get xs p ≡ Some x → p < length xs → (s : X) → eq_by_cmp cmp s x ≡ true
          → list_any (eq_by_cmp cmp s) (remove xs p) ≡ false
      none_left xs p x up at h s tie = refused _ (λ any.
          let r = one_passes (eq_by_cmp cmp s) (remove xs p) any in
          let w = get_remove xs p r.0 r.1 h r.2 in
          let same : cmp x r.1 ≡ Equal = sym (o.congr s x r.1 (is_equal _ tie)) ∙ is_equal _ r.3 in
          let e : p ≡ w.0 = one_place xs up p w.0 x r.1 at w.1 same in
          elim w.2 as (λ _. ⊥) [
            | inl v ↦ omega (arith, e, v.0, v.1)
            | inr v ↦ omega (arith, e, v.0, v.1)
          ])
