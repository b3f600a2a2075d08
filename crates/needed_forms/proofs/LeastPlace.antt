-- The least of some places that pass a test.
use Rattle.std.specs.Prelude.{◌≢◌, Contains, if◌then◌else◌}
use Rattle.std.proofs.Common.{◌≡◌, ◌<◌, ◌≤◌, ◌+◌, ◌-◌, refl, sym, ap, ◌∙◌, subst, Bool, true, false, List, [], ◌∷◌, drop, get_or, length, Option, Some, None, ℕ, zero, suc, arith}
use Rattle.std.specs.declared.cmp.Ordering.TheVariants.{Greater}
use Rattle.std.proofs.lemmas.List.{at_drop_more}
use Rattle.cell_refs.specs.declared.place.Place.{Place}
use Rattle.form_needs.specs.FirstRefusal.{IsLeast, place_cmp}
use Rattle.needed_forms.specs.Firsts.{is_before, least_in, with_least}
use Rattle.needed_forms.proofs.Order.{before_fits, itself_fits, other_fits}

module _ (test : Place → Bool) where
  -- a place among some that passes
  abbrev pub Passes : List Place → Place → Type 0
  Passes places p = Contains places p × (test p ≡ true)

  first_or_later : (P : Place → Type 0) (p : Place) (places : List Place) → P p → ((q : Place) → Contains places q → P q) → (q : Place) → Contains (p ∷ places) q → P q
  first_or_later P p places h k q (zero, i, e) = subst P e h
  first_or_later P p places h k q (suc n, i, e) = k q (n, omega (arith, i), e)

  later : (p : Place) (places : List Place) (q : Place) → Contains places q → Contains (p ∷ places) q
  later p places q h = (suc h.0, omega (arith, h.1), h.2)

  -- where there is none, none passes
  pub none_passes : (places : List Place) → least_in test places ≡ None → (p : Place) → Contains places p → test p ≡ true → ⊥
  none_passes [] e = λ p i t. absurd (omega (arith, i.1))
  none_passes (q ∷ places) e = by (test q) refl (none_passes places) e
    where
      by : (b : Bool) → test q ≡ b → (least_in test places ≡ None → (p : Place) → Contains places p → test p ≡ true → ⊥) → with_least b q (least_in test places) ≡ None
          → (p : Place) → Contains (q ∷ places) p → test p ≡ true → ⊥
      by true d h e = cc
      by false d h e = first_or_later (λ p. test p ≡ true → ⊥) q places (λ t. let m : false ≡ true = sym d ∙ t in cc) (h e)

  -- where there is one, it is the least that passes
  pub least_passes : (places : List Place) (p : Place) → least_in test places ≡ Some p → IsLeast (Passes places) p
  least_passes [] p e = cc
  least_passes (q ∷ places) p e = by (test q) refl (least_in test places) refl (least_passes places) e
    where
      Fits : Place → Place → Type 0
      Fits p r = test r ≡ true → place_cmp p r ≢ Greater

      all_fit : (p : Place) → ((r : Place) → Contains (q ∷ places) r → Fits p r) → (r : Place) → Passes (q ∷ places) r → place_cmp p r ≢ Greater
      all_fit p h r k = h r k.0 k.1

      -- the first is the least
      first : test q ≡ true → ((r : Place) → Contains places r → Fits q r) → IsLeast (Passes (q ∷ places)) q
      first t h = record { holds = ((0, omega arith, refl), t); least = all_fit q (first_or_later (Fits q) q places (λ s. itself_fits q) h) }

      -- it is that of the others
      other : (r : Place) → IsLeast (Passes places) r → Fits r q → IsLeast (Passes (q ∷ places)) r
      other r h f = record { holds = (later q places r h.holds.0, h.holds.1); least = all_fit r (first_or_later (Fits r) q places f (λ s i t. h.least s (i, t))) }

      by_order : (r : Place) → IsLeast (Passes places) r → test q ≡ true → (b : Bool) → is_before q r ≡ b → (if b then q else r) ≡ p → IsLeast (Passes (q ∷ places)) p
      by_order r h t true b e = subst (IsLeast (Passes (q ∷ places))) e (first t (λ s i u. before_fits q r s b (h.least s (i, u))))
      by_order r h t false b e = subst (IsLeast (Passes (q ∷ places))) e (other r h (λ u. other_fits q r b))

      by : (b : Bool) → test q ≡ b → (l : Option Place) → least_in test places ≡ l → ((r : Place) → least_in test places ≡ Some r → IsLeast (Passes places) r)
          → with_least b q l ≡ Some p → IsLeast (Passes (q ∷ places)) p
      by false d l m h e = other p (h p (m ∙ e)) (λ t. let n : false ≡ true = sym d ∙ t in cc)
      by true d None m h e =
          let s : q ≡ p = cc in
          subst (IsLeast (Passes (q ∷ places))) s (first d (λ r i t. absurd (none_passes places m r i t)))
      by true d (Some r) m h e = let s : (if is_before q r then q else r) ≡ p = cc in by_order r (h r m) d (is_before q r) refl s

  -- ---- from the last place on
  -- nothing stands behind all places
  pub behind_all : (places : List Place) → least_in test (drop (length places) places) ≡ None
  behind_all [] = refl
  behind_all (p ∷ places) = behind_all places

  -- one place more in front
  pub one_more : (places : List Place) (i : ℕ) (d : Place) (least now : Option Place) → 0 < i → i ≤ length places
      → least ≡ least_in test (drop i places) → now ≡ with_least (test (get_or places (i - 1) d)) (get_or places (i - 1) d) least → now ≡ least_in test (drop (i - 1) places)
  one_more places i d least now some within before after =
      let next : i - 1 + 1 ≡ i = omega (arith, some) in
      after ∙ ap (with_least (test (get_or places (i - 1) d)) (get_or places (i - 1) d)) (before ∙ ap (λ n. least_in test (drop n places)) (sym next))
      ∙ sym (at_drop_more (least_in test) places (i - 1) d (omega (arith, some, within)))

  -- all places stand behind the place 0
  pub from_start : (places : List Place) (i : ℕ) (least : Option Place) → i ≤ 0 → least ≡ least_in test (drop i places) → least ≡ least_in test places
  from_start places i least none before = let start : i ≡ 0 = omega (arith, none) in before ∙ ap (λ n. least_in test (drop n places)) start
