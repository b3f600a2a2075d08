-- Where no needed place is malformed, circular or refused, none is blocked.
use Rattle.std.specs.Prelude.{is_some, not, ◌&&◌}
use Rattle.std.proofs.Common.{◌≡◌, refl, sym, ap, subst, ◌∙◌, Bool, true, false, if◌then◌else◌, Option, Some, None, option_map, ℕ, zero, suc, length}
use Rattle.std.specs.FinMap.{keys}
use Rattle.cell_refs.specs.declared.cell.Cell.{Cell}
use Rattle.formula_ast.specs.Tree.{Tree}
use Rattle.recalculation.specs.Entries.{Entry, Constant, Formula, entry}
use Rattle.recalculation.specs.Entries as said
use Rattle.recalculation.specs.Walks.{has_walk, is_formula, steps_to, refers}
use Rattle.recalculation.proofs.Circles.{found_text}
use Rattle.recalculation.proofs.Lists.{both}
use Rattle.form_values.specs.declared.abs.Abs.{Abs}
use Rattle.cell_refs.specs.declared.place.Place.{Place}
use Rattle.cell_refs.specs.declared.place.Place.TheVariants as place
use Rattle.form_extraction.specs.declared.forms.CellForm.{CellForm}
use Rattle.form_extraction.specs.declared.forms.CellForm.TheVariants.{Form, Refused, Blocked, Circular, Malformed}
use Rattle.form_extraction.specs.declared.forms.Outcome.{Outcome}
use Rattle.form_extraction.specs.declared.forms.Outcome.TheVariants as outcome
use Rattle.form_extraction.specs.Formulas.{part_of}
use Rattle.form_extraction.specs.Looked.{LooksAt, LooksFrom, forms_of, refers_to_circle, side_form}
use Rattle.form_extraction.specs.Places.{Decisions, by_looks, form_in, form_of, formula_form, least_without, numbered_in}
use Rattle.form_extraction.proofs.Cells.{blocked_by_least, least_is, looked_is_referred, no_form}
use Rattle.form_extraction.proofs.States.{circle_is_circular}
use Rattle.form_needs.specs.FromSheetProblems.{form_at}
use Rattle.form_needs.specs.FromSheetProblems.{tree_of}
use Rattle.form_needs.specs.FirstRefusal.{NoneRefused}
use Rattle.form_needs.specs.Needed.{Asked, IsNeeded, PlaceLooksAt}
use Rattle.form_needs.specs.Needed as needed

-- what refers to a cell is a formula
formula_refers : (e : Option Entry) (b : Cell) → refers e b ≡ true → is_formula e ≡ true
formula_refers None b h = cc
formula_refers (Some (Constant v)) b h = cc
formula_refers (Some (Formula t)) b h = refl
formula_refers (Some said.Malformed) b h = cc

module _ (q : Asked) (none : NoneRefused q) where
  abbrev decided : Decisions
  decided = numbered_in q.decisions

  abbrev leaf : Cell → Bool
  leaf c = is_some (decided c)

  abbrev walks : ℕ → Cell → Bool
  walks k a = has_walk (keys q.book.texts) (steps_to q.book leaf) k a

  -- ---- cells
  -- a needed cell without a form is blocked
  blocked_only : (b : Cell) → IsNeeded q (place.Cell b) → (f : CellForm) → form_of q.book decided b ≡ f → form_in f ≡ None → (p : Place) × (f ≡ Blocked p)
  blocked_only b n (Form f) e h = cc
  blocked_only b n (Refused at cause) e h = absurd (none.1 (place.Cell b) (at, cause, (n, ap Some e)))
  blocked_only b n Circular e h = absurd (none.0.1 (place.Cell b) (n, ap Some e))
  blocked_only b n Malformed e h = absurd (none.0.0 (place.Cell b) (n, ap Some e))
  blocked_only b n (Blocked p) e h = (p, refl)

  step : (a b : Cell) → LooksAt q.book decided a b → steps_to q.book leaf a b ≡ true
  step a b l = both (not (leaf a)) (refers (entry q.book a) b) (ap (λ d. not (is_some d)) l.0) (looked_is_referred q.book decided a b l)

  -- so walks of any length start at a needed cell that is blocked
  walk : (k : ℕ) (a : Cell) (p : Place) → IsNeeded q (place.Cell a) → form_of q.book decided a ≡ Blocked p → walks k a ≡ true
  walk zero a p n h = refl
  walk (suc k) a p n h =
      let r = blocked_by_least q.book decided a p h in
      let m = needed.looked (place.Cell a) r.0 n r.2.looked in
      let s = blocked_only r.0 m (form_of q.book decided r.0) refl r.2.without in
      found_text q.book r.0 (λ b. steps_to q.book leaf a b && walks k b) r.2.looked.2
      (both (steps_to q.book leaf a r.0) (walks k r.0) (step a r.0 r.2.looked) (walk k r.0 s.0 m s.1))

  cell_open : (a : Cell) (p : Place) → IsNeeded q (place.Cell a) → form_of q.book decided a ≡ Blocked p → ⊥
  cell_open a p n h =
      let r = blocked_by_least q.book decided a p h in
      let w = walk (length (keys q.book.texts)) a p n h in
      let f = formula_refers (entry q.book a) r.0 (looked_is_referred q.book decided a r.0 r.2.looked) in
      let c = both (is_formula (entry q.book a)) (not (leaf a) && walks (length (keys q.book.texts)) a) f
      (both (not (leaf a)) (walks (length (keys q.book.texts)) a) (ap (λ d. not (is_some d)) r.2.looked.0) w) in
      let m : Circular ≡ Blocked p = sym (circle_is_circular q.book decided a c) ∙ h in
      cc

  -- ---- sides
  abbrev forms : Cell → Option Abs
  forms = forms_of q.book decided

  side_open : (k : ℕ) (t : Tree) → tree_of q.sides k ≡ Some t → IsNeeded q (place.Side k) → (p : Place) (w : Bool) → refers_to_circle q.book leaf t ≡ w
      → (if w then Circular else formula_form (forms_of q.book decided) t) ≡ Blocked p → ⊥
  side_open k t e n p true v h = cc
  side_open k t e n p false v h = by (least_without forms (part_of forms t).looks) refl (part_of forms t).outcome h
    where
      by : (l : Option Cell) → least_without forms (part_of forms t).looks ≡ l → (o : Outcome) → by_looks l o ≡ Blocked p → ⊥
      by None m (outcome.Gives v) h = cc
      by None m (outcome.Refused at cause) h = cc
      by None m outcome.Without h = cc
      by (Some b) m o h =
          let r = least_is forms (part_of forms t).looks b m in
          let d = no_form q.book decided b r.without in
          let l : PlaceLooksAt q (place.Side k) b = (t, e, (d.0, d.1, subst (λ w. LooksFrom w forms (Some (Formula t)) b) (sym v) r.there)) in
          let s = blocked_only b (needed.looked (place.Side k) b n l) (form_of q.book decided b) refl r.without in
          cell_open b s.0 (needed.looked (place.Side k) b n l) s.1

  -- ---- places
  pub not_blocked : (p by : Place) → IsNeeded q p → form_at q.book q.sides q.decisions p ≡ Some (Blocked by) → ⊥
  not_blocked (place.Cell a) by n h = let e : form_of q.book decided a ≡ Blocked by = cc in cell_open a by n e
  not_blocked (place.Side k) by n h = of_tree (tree_of q.sides k) refl h
    where
      of_tree : (o : Option Tree) → tree_of q.sides k ≡ o → option_map (side_form q.book decided) o ≡ Some (Blocked by) → ⊥
      of_tree None e h = cc
      of_tree (Some t) e h = let b : side_form q.book decided t ≡ Blocked by = cc in side_open k t e n by (refers_to_circle q.book leaf t) refl b

  -- so each has a form
  pub has_form : (p : Place) (f : CellForm) → IsNeeded q p → form_at q.book q.sides q.decisions p ≡ Some f → (a : Abs) × (f ≡ Form a)
  has_form p (Form a) n e = (a, refl)
  has_form p (Refused at cause) n e = absurd (none.1 p (at, cause, (n, e)))
  has_form p Circular n e = absurd (none.0.1 p (n, e))
  has_form p Malformed n e = absurd (none.0.0 p (n, e))
  has_form p (Blocked by) n e = absurd (not_blocked p by n e)

-- ---- sides that are malformed
-- there is none
pub side_allowed : (q : Asked) (k : ℕ) → form_at q.book q.sides q.decisions (place.Side k) ≡ Some Malformed → ⊥
side_allowed q k h = of_tree (tree_of q.sides k) h
  where
    looks : Cell → Option Abs
    looks = forms_of q.book (numbered_in q.decisions)

    by : (l : Option Cell) (o : Outcome) → by_looks l o ≡ Malformed → ⊥
    by None (outcome.Gives v) h = cc
    by None (outcome.Refused at cause) h = cc
    by None outcome.Without h = cc
    by (Some b) o h = cc

    of_form : (t : Tree) (w : Bool) → (if w then Circular else formula_form looks t) ≡ Malformed → ⊥
    of_form t true h = cc
    of_form t false h = by (least_without looks (part_of looks t).looks) (part_of looks t).outcome h

    of_tree : (o : Option Tree) → option_map (side_form q.book (numbered_in q.decisions)) o ≡ Some Malformed → ⊥
    of_tree None h = cc
    of_tree (Some t) h =
        let m : side_form q.book (numbered_in q.decisions) t ≡ Malformed = cc in
        of_form t (refers_to_circle q.book (λ c. is_some (numbered_in q.decisions c)) t) m
