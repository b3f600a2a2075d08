-- The references of a formula, by their areas and places.
use Rattle.std.proofs.Common.{◌≡◌, ℕ, zero, suc, ◌+◌, ◌*◌, ◌<◌, ◌≤◌, Bool, true, false, ◌&&◌, List, [], ◌∷◌, length, get_or, refl, sym, ap, ◌∙◌, arith}
use Rattle.std.specs.Prelude.{not, ◌||◌, Option, None, Some, slice_get, sum_by}
use Rattle.std.specs.List.{list_any}
use Rattle.std.proofs.lemmas.List.Sums.{get_or-le-sum_by}
use Rattle.std.proofs.lemmas.Nat.{mul-add-lt}
use Rattle.std.proofs.lemmas.Option.{get_or_from_slice_get, slice_get_within}
use Rattle.cell_refs.specs.Areas.{Area}
use Rattle.recalculation.proofs.Lists.{both, first_true, second_true}
use Rattle.column_strips.specs.declared.formulas.Formula.{Formula}
use Rattle.dep_table.specs.Edges.{edge, most_slots, reaches, reaches_by, reaches_some, refers_to, slot}

-- one that passes, at its place
one_passes : (p : Area → Bool) (xs : List Area) → list_any p xs ≡ true → (a : ℕ) × (x : Area) × (slice_get xs a ≡ Some x) × (p x ≡ true)
one_passes p [] h = cc
one_passes p (x ∷ xs) h =
    elim (p x) as (λ t. p x ≡ t → (t || list_any p xs) ≡ true → (a : ℕ) × (y : Area) × (slice_get (x ∷ xs) a ≡ Some y) × (p y ≡ true)) [
      | true ↦ λ e h. (0, x, refl, e)
      | false ↦ λ e h. let r = one_passes p xs h in (suc r.0, r.1, r.2, r.3)
    ] refl h

passes_one : (p : Area → Bool) (xs : List Area) (a : ℕ) (x : Area) → slice_get xs a ≡ Some x → p x ≡ true → list_any p xs ≡ true
passes_one p [] a x at h = cc
passes_one p (y ∷ xs) zero x at h = let e : Some (p y) ≡ Some (p x) = ap (mapped p) at in let f : p y ≡ p x = cc in ap (λ t. t || list_any p xs) (f ∙ h)
  where
    mapped : (Area → Bool) → Option Area → Option Bool
    mapped q None = None
    mapped q (Some z) = Some (q z)
passes_one p (y ∷ xs) (suc a) x at h =
    elim (p y) as (λ t. (t || list_any p xs) ≡ true) [ true ↦ refl | false ↦ passes_one p xs a x at h ]

-- what a reference has: its formula, its area and the formula to which it leads
area_there : (o : Option Area) (g : Option Formula) → reaches_some o g ≡ true → (area : Area) × (o ≡ Some area) × (reaches area g ≡ true)
area_there None g h = cc
area_there (Some area) g h = (area, refl, h)

formula_there : (f : Option Formula) (a : ℕ) (g : Option Formula) → reaches_by f a g ≡ true → (x : Formula) × (f ≡ Some x) × (reaches_some (slice_get x.areas.items a) g ≡ true)
formula_there None a g h = cc
formula_there (Some x) a g h = (x, refl, h)

target_there : (area : Area) (g : Option Formula) → reaches area g ≡ true → (x : Formula) × (g ≡ Some x)
target_there area None h = cc
target_there area (Some x) h = (x, refl)

same_formula : (f : Option Formula) (x : Formula) (g : Option Formula) → f ≡ Some x → refers_to f g ≡ list_any (λ area. reaches area g) x.areas.items
same_formula f x g h = ap (λ o. refers_to o g) h

referring_there : (f : Option Formula) (g : Option Formula) → refers_to f g ≡ true → (x : Formula) × (f ≡ Some x)
referring_there None g h = cc
referring_there (Some x) g h = (x, refl)

module _ (formulas : List Formula) (leaves : List Bool) where
  pub leaf_stays : (i a j : ℕ) → get_or leaves i false ≡ true → slot formulas leaves i a j ≡ false
  unfolding slot
  leaf_stays i a j h = ap (λ b. not b && reaches_by (slice_get formulas i) a (slice_get formulas j)) h

  pub slot_is : (i a j : ℕ) (f : Formula) → get_or leaves i false ≡ false → slice_get formulas i ≡ Some f
      → slot formulas leaves i a j ≡ reaches_some (slice_get f.areas.items a) (slice_get formulas j)
  unfolding slot
  slot_is i a j f h at =
      ap (λ b. not b && reaches_by (slice_get formulas i) a (slice_get formulas j)) h ∙ ap (λ o. reaches_by o a (slice_get formulas j)) at

  -- a reference leads to the place of a formula
  pub slot_place : (i a j : ℕ) → slot formulas leaves i a j ≡ true → j < length formulas
  unfolding slot
  slot_place i a j h =
      let f = formula_there (slice_get formulas i) a (slice_get formulas j) (second_true _ _ h) in
      let area = area_there (slice_get f.0.areas.items a) (slice_get formulas j) f.2 in
      let g = target_there area.0 (slice_get formulas j) area.2 in
      slice_get_within formulas j g.0 g.1

  -- by one of the areas
  pub slot_area : (i a j : ℕ) (f : Formula) → slot formulas leaves i a j ≡ true → get_or leaves i false ≡ false → slice_get formulas i ≡ Some f → a < length f.areas.items
  slot_area i a j f h l at =
      let area = area_there (slice_get f.areas.items a) (slice_get formulas j) (sym (slot_is i a j f l at) ∙ h) in
      slice_get_within f.areas.items a area.0 area.1

  pub slot_edge : (i a j : ℕ) → slot formulas leaves i a j ≡ true → edge formulas leaves i j ≡ true
  unfolding slot edge
  slot_edge i a j h =
      let f = formula_there (slice_get formulas i) a (slice_get formulas j) (second_true _ _ h) in
      let area = area_there (slice_get f.0.areas.items a) (slice_get formulas j) f.2 in
      both _ _ (first_true _ _ h)
      (same_formula (slice_get formulas i) f.0 (slice_get formulas j) f.1
      ∙ passes_one (λ x. reaches x (slice_get formulas j)) f.0.areas.items a area.0 area.1 area.2)

  pub edge_slot : (i j : ℕ) → edge formulas leaves i j ≡ true → (a : ℕ) × (slot formulas leaves i a j ≡ true)
  unfolding slot edge
  edge_slot i j h =
      let f = referring_there (slice_get formulas i) (slice_get formulas j) (second_true _ _ h) in
      let one = one_passes (λ x. reaches x (slice_get formulas j)) f.0.areas.items
      (sym (same_formula (slice_get formulas i) f.0 (slice_get formulas j) f.1) ∙ second_true _ _ h) in (
        one.0,
        both _ _ (first_true _ _ h) (ap (λ o. reaches_by o one.0 (slice_get formulas j)) f.1 ∙ ap (λ o. reaches_some o (slice_get formulas j)) one.2 ∙ one.3),
      )

  -- a reference leads to a formula
  pub edge_target : (i j : ℕ) → edge formulas leaves i j ≡ true → (g : Formula) × (slice_get formulas j ≡ Some g)
  unfolding edge
  edge_target i j h =
      let f = referring_there (slice_get formulas i) (slice_get formulas j) (second_true _ _ h) in
      let one = one_passes (λ x. reaches x (slice_get formulas j)) f.0.areas.items
      (sym (same_formula (slice_get formulas i) f.0 (slice_get formulas j) f.1) ∙ second_true _ _ h) in
      target_there one.1 (slice_get formulas j) one.3

  -- each is counted
  pub slot_number : (i a j : ℕ) (f : Formula) → slice_get formulas i ≡ Some f → a < length f.areas.items → j < length formulas
      → a * length formulas + j < most_slots formulas
  unfolding most_slots
  slot_number i a j f at h l =
      let each : length (get_or formulas i f).areas.items ≤ sum_by (λ (x : Formula). length x.areas.items) formulas
      = get_or-le-sum_by (λ (x : Formula). length x.areas.items) formulas i f (slice_get_within formulas i f at) in
      let same : length (get_or formulas i f).areas.items ≡ length f.areas.items
      = ap (λ (x : Formula). length x.areas.items) (get_or_from_slice_get formulas i f f at) in
      let few : a < sum_by (λ (x : Formula). length x.areas.items) formulas = omega (arith, each, same, h) in
      let row = mul-add-lt a (length formulas) j (sum_by (λ (x : Formula). length x.areas.items) formulas) few l in
      omega (arith, row)
