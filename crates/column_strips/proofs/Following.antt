-- One more cell that is marked while those that refer to a cell are sought.
use Rattle.std.proofs.Common.{◌≡◌, ℕ, zero, suc, ◌+◌, ◌<◌, ◌≤◌, Bool, true, false, ◌&&◌, cond, List, [], ◌∷◌, ◌++◌, length, refl, sym, ap, ◌∙◌, arith, ◌⊎◌, inl, inr}
use Rattle.std.specs.Prelude.{◌||◌, Option, None, Some, is_some, slice_get}
use Rattle.std.specs.Cmp.{eq_by_cmp_equiv}
use Rattle.std.specs.FinMap.{contains_key, len}
use Rattle.std.specs.List.{IsDistinct}
use Rattle.std.specs.Ordering.{eq_by_cmp}
use Rattle.std.proofs.lemmas.List.{length_push}
use Rattle.std.proofs.lemmas.Map.Keys.{IsDistinct-push}
use Rattle.std.proofs.lemmas.Option.{same_Some}
use Rattle.cell_refs.specs.Areas.{Area}
use Rattle.cell_refs.specs.Cells.{cell_cmp}
use Rattle.cell_refs.specs.declared.cell.Cell.{Cell}
use Rattle.cell_refs.specs.declared.limits.TheConstants.{TEXTS}
use Rattle.cell_refs.proofs.Order.{cells_total, exact_cells}
use Rattle.column_strips.specs.declared.strip.Strip.{Strip}
use Rattle.column_strips.specs.Affected.{AreFormulas, has_cell}
use Rattle.column_strips.specs.Formulas.{References}
use Rattle.column_strips.specs.Strips.{is_part_of_any}
use Rattle.column_strips.proofs.Marked.{any_push}
use Rattle.column_strips.proofs.Spreading.{few_found}
use Rattle.column_strips.proofs.Tests.{is_equal}

-- a strip without the row leads nowhere
pub skipped : (old q e r : Bool) → r ≡ false → (old || q) ≡ (old || (q || (e && r)))
skipped true q e r h = refl
skipped false true e r h = refl
skipped false false true r h = sym h
skipped false false false r h = refl

-- one with the row leads from its cell
pub reached : (old q e r : Bool) → r ≡ true → ((old || q) || e) ≡ (old || (q || (e && r)))
reached true q e r h = refl
reached false true e r h = refl
reached false false true r h = sym h
reached false false false r h = refl

pub get_before : {X : Type 0} (xs ys : List X) (p : ℕ) (x : X) → slice_get xs p ≡ Some x → slice_get (xs ++ ys) p ≡ Some x
get_before [] ys p x h = cc
get_before (z ∷ xs) ys zero x h = h
get_before (z ∷ xs) ys (suc p) x h = get_before xs ys p x h

pub get_pushed : {X : Type 0} (xs : List X) (y : X) (p : ℕ) (x : X) → slice_get (xs ++ y ∷ []) p ≡ Some x → (slice_get xs p ≡ Some x) ⊎ (y ≡ x)
get_pushed [] y zero x h = inr (same_Some y x h)
get_pushed [] y (suc p) x h = cc
get_pushed (z ∷ xs) y zero x h = inl h
get_pushed (z ∷ xs) y (suc p) x h = get_pushed xs y p x h

module _ (cells new : List Cell) (m : Cell) (marked : new ≡ cond (has_cell cells m) cells (cells ++ m ∷ [])) where
  was_there : has_cell cells m ≡ true → new ≡ cells
  was_there h = marked ∙ ap (λ b. cond b cells (cells ++ m ∷ [])) h

  is_new : has_cell cells m ≡ false → new ≡ cells ++ m ∷ []
  is_new h = marked ∙ ap (λ b. cond b cells (cells ++ m ∷ [])) h

  pub marked_has : (c : Cell) → has_cell new c ≡ (has_cell cells c || eq_by_cmp cell_cmp c m)
  marked_has c =
      elim (has_cell cells m) as (λ b. has_cell cells m ≡ b → has_cell new c ≡ (has_cell cells c || eq_by_cmp cell_cmp c m)) [
        | true ↦ λ h. ap (λ xs. has_cell xs c) (was_there h) ∙ itself (has_cell cells c) (eq_by_cmp cell_cmp c m) (λ e. ap (has_cell cells) (exact_cells c m (is_equal _ e)) ∙ h)
        | false ↦ λ h. ap (λ xs. has_cell xs c) (is_new h) ∙ any_push (eq_by_cmp cell_cmp c) cells m ∙ turned (eq_by_cmp cell_cmp c m) (has_cell cells c)
      ] refl
    where
      itself : (a b : Bool) → (b ≡ true → a ≡ true) → a ≡ (a || b)
      itself true b h = refl
      itself false true h = h refl
      itself false false h = refl

      turned : (a b : Bool) → (a || b) ≡ (b || a)
      turned true true = refl
      turned true false = refl
      turned false true = refl
      turned false false = refl

  pub marked_kept : (p : ℕ) (c : Cell) → slice_get cells p ≡ Some c → slice_get new p ≡ Some c
  marked_kept p c at =
      elim (has_cell cells m) as (λ b. has_cell cells m ≡ b → slice_get new p ≡ Some c) [
        | true ↦ λ h. ap (λ (xs : List Cell). slice_get xs p) (was_there h) ∙ at
        | false ↦ λ h. ap (λ (xs : List Cell). slice_get xs p) (is_new h) ∙ get_before cells (m ∷ []) p c at
      ] refl

  pub marked_formulas : (references : References) → AreFormulas references cells → contains_key references m ≡ true → AreFormulas references new
  marked_formulas references are own p c at =
      elim (has_cell cells m) as (λ b. has_cell cells m ≡ b → contains_key references c ≡ true) [
        | true ↦ λ h. are p c (ap (λ (xs : List Cell). slice_get xs (suc p)) (sym (was_there h)) ∙ at)
        | false ↦ λ h. elim (get_pushed cells m (suc p) c (ap (λ (xs : List Cell). slice_get xs (suc p)) (sym (is_new h)) ∙ at)) as (λ _. contains_key references c ≡ true) [
          | inl old ↦ are p c old
          | inr e ↦ ap (contains_key references) (sym e) ∙ own
        ]
      ] refl

-- there is room for a formula cell that isn't marked
pub room_left : (references : References) (cells : List Cell) (m : Cell) → IsDistinct (eq_by_cmp cell_cmp) cells → AreFormulas references cells → contains_key references m ≡ true
    → len references ≤ TEXTS → has_cell cells m ≡ false → length cells < TEXTS + 1
room_left references cells m distinct are own few absent =
    let longer : AreFormulas references (cells ++ m ∷ []) = λ p c at. elim (get_pushed cells m (suc p) c at) as (λ _. contains_key references c ≡ true) [
      | inl old ↦ are p c old
      | inr e ↦ ap (contains_key references) (sym e) ∙ own
    ] in
    let most = few_found references (cells ++ m ∷ []) (IsDistinct-push (eq_by_cmp_equiv cells_total) cells m distinct absent) longer in
    omega (arith, most, few, length_push cells m)

-- a cell whose areas make a strip is that of a formula
pub made_by : (o : Option (List Area)) (sheet column : ℕ) (s : Strip) → is_part_of_any o sheet column s ≡ true → is_some o ≡ true
made_by None sheet column s h = cc
made_by (Some areas) sheet column s h = refl
