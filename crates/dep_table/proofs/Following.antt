-- Following the references of a formula, area by area.
use Rattle.std.proofs.Common.{◌≡◌, ℕ, ◌+◌, ◌-◌, ◌*◌, ◌<◌, ◌≤◌, Bool, true, false, List, length, get_or, refl, sym, ap, ◌∙◌, arith, inl, inr}
use Rattle.std.specs.Prelude.{Some, slice_get}
use Rattle.std.proofs.lemmas.Bool.{cases_lt, cases_order}
use Rattle.std.proofs.lemmas.Option.{slice_get-get_or}
use Rattle.cell_refs.specs.Areas.{Area}
use Rattle.column_strips.specs.declared.formulas.Formula.{Formula}
use Rattle.dep_table.specs.Edges.{reaches, reaches_some, slot}
use Rattle.dep_table.proofs.Numbers.{earlier_area}
use Rattle.dep_table.proofs.SlotLaws.{slot_area, slot_is, slot_place}

module _ (formulas : List Formula) (leaves : List Bool) (i : ℕ) (f : Formula) (rooted : get_or leaves i false ≡ false) (at : slice_get formulas i ≡ Some f)
    (areas : List Area) (same : areas ≡ f.areas.items) where
  -- a reference by the area that is next
  pub stands : (a : ℕ) (d : Area) → a < length areas → (j : ℕ) → slot formulas leaves i a j ≡ reaches (get_or areas a d) (slice_get formulas j)
  stands a d l j =
      slot_is formulas leaves i a j f rooted at ∙ ap (λ xs. reaches_some (slice_get xs a) (slice_get formulas j)) (sym same)
      ∙ ap (λ o. reaches_some o (slice_get formulas j)) (slice_get-get_or areas a d l)

  module _ (from a p : ℕ) (past : (b k : ℕ) → from ≤ b * length formulas + k → b * length formulas + k < a * length formulas + p → slot formulas leaves i b k ≡ false) where
    -- none before a place of the area up to which there is none in the area
    pub up_to : (q : ℕ) → q ≤ length formulas → ((k : ℕ) → p ≤ k → k < q → slot formulas leaves i a k ≡ false)
        → (b k : ℕ) → from ≤ b * length formulas + k → b * length formulas + k < a * length formulas + q → slot formulas leaves i b k ≡ false
    up_to q few none b k h l =
        elim (slot formulas leaves i b k) as (λ s. slot formulas leaves i b k ≡ s → s ≡ false) [
          | true ↦ λ e.
              let inside = slot_place formulas leaves i b k e in
              elim (cases_lt (b * length formulas + k) (a * length formulas + p)) as (λ _. true ≡ false) [
                | inl early ↦ sym e ∙ past b k h early
                | inr late ↦ elim (cases_order a b) as (λ _. true ≡ false) [
                  | inl eq ↦
                      let row : a * length formulas ≡ b * length formulas = ap (λ x. x * length formulas) eq in
                      sym e ∙ ap (λ x. slot formulas leaves i x k) (sym eq) ∙ none k (omega (arith, row)) (omega (arith, row))
                  | inr w ↦ elim w as (λ _. true ≡ false) [
                    | inl more ↦ let row = earlier_area (length formulas) a (length formulas - 1) b k more (omega arith) in absurd (omega (arith, row))
                    | inr less ↦ let row = earlier_area (length formulas) b k a p less inside in absurd (omega (arith, row))
                  ]
                ]
              ]
          | false ↦ λ e. refl
        ] refl

    -- none at all behind the last area
    pub none_left : length areas ≤ a → (b k : ℕ) → from ≤ b * length formulas + k → slot formulas leaves i b k ≡ false
    none_left over b k h =
        elim (slot formulas leaves i b k) as (λ s. slot formulas leaves i b k ≡ s → s ≡ false) [
          | true ↦ λ e.
              let few = slot_area formulas leaves i b k f e rooted at in
              let len : length areas ≡ length f.areas.items = ap length same in
              let row = earlier_area (length formulas) b k a p (omega (arith, few, len, over)) (slot_place formulas leaves i b k e) in
              sym e ∙ past b k h row
          | false ↦ λ e. refl
        ] refl
