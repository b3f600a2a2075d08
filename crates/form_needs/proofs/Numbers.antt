-- Where nothing is refused, each side and the objective have the form of a number.
use Rattle.std.specs.Prelude.{is_some, not, ◌&&◌, Contains}
use Rattle.std.proofs.Common.{◌≡◌, refl, sym, ap, subst, ◌∙◌, Bool, true, false, if◌then◌else◌, List, Option, Some, None, option_map, ℕ, zero, suc, length}
use Rattle.std.specs.Option.{option_and_then}
use Rattle.std.specs.FinMap.{keys}
use Rattle.std.proofs.lemmas.List.{length-replicate}
use Rattle.std.proofs.Math.ListN.{replicate}
use Rattle.fractions.specs.Rational.{ℚ, zero_ℚ}
use Rattle.cell_refs.specs.declared.cell.Cell.{Cell}
use Rattle.formula_ast.specs.Tree.{Tree}
use Rattle.sheet_model.specs.declared.value.Value.TheVariants.{Number, Text, Logical, Empty, Error}
use Rattle.recalculation.specs.Entries.{Book, Entry, Constant, Formula, entry}
use Rattle.recalculation.specs.Entries as said
use Rattle.recalculation.specs.Walks.{has_walk, is_formula, steps_to, refers}
use Rattle.recalculation.proofs.Circles.{found_text}
use Rattle.recalculation.proofs.Lists.{both}
use Rattle.affine_forms.specs.Assigned.{assigned}
use Rattle.affine_forms.specs.Forms.{AffineForm, constant_form, decision_form}
use Rattle.form_values.specs.Meaning.{abs_at}
use Rattle.form_values.specs.declared.abs.Abs.{Abs}
use Rattle.form_values.specs.declared.abs.Abs.TheVariants.{Known, Affine, Test}
use Rattle.cell_refs.specs.declared.place.Place.{Place}
use Rattle.cell_refs.specs.declared.place.Place.TheVariants as place
use Rattle.form_extraction.specs.declared.forms.CellForm.{CellForm}
use Rattle.form_extraction.specs.declared.forms.CellForm.TheVariants.{Form, Refused, Blocked, Circular, Malformed}
use Rattle.form_extraction.specs.declared.forms.Outcome.{Outcome}
use Rattle.form_extraction.specs.declared.forms.Outcome.TheVariants as outcome
use Rattle.form_extraction.specs.Formulas.{part_of}
use Rattle.form_extraction.specs.Looked.{LooksAt, LooksFrom, forms_of, refers_to_circle, side_form, side_value}
use Rattle.form_extraction.specs.Places.{Decisions, by_looks, form_in, form_of, formula_form, least_without, numbered_in}
use Rattle.form_extraction.proofs.Books.{form_is_the_value}
use Rattle.form_extraction.proofs.Cells.{blocked_by_least, least_is, looked_is_referred, no_form, side_is_the_value}
use Rattle.form_extraction.proofs.States.{circle_is_circular, decision_is_itself}
use Rattle.sheet_problems.specs.Forms.{HasForm, form_at, number_form}
use Rattle.sheet_problems.specs.Places.{number_in, put_over, tree_of, worth_at}
use Rattle.form_needs.specs.FirstRefusal.{AllNumbers}
use Rattle.form_needs.specs.Laws.{FormsWhereNoneIsRefused}
use Rattle.form_needs.specs.Needed.{Asked, IsNeeded, PlaceLooksAt}
use Rattle.form_needs.specs.Needed as needed

-- what refers to a cell is a formula
formula_refers : (e : Option Entry) (b : Cell) → refers e b ≡ true → is_formula e ≡ true
formula_refers None b h = cc
formula_refers (Some (Constant v)) b h = cc
formula_refers (Some (Formula t)) b h = refl
formula_refers (Some said.Malformed) b h = cc

module _ (q : Asked) (all : AllNumbers q) where
  abbrev decided : Decisions
  decided = numbered_in q.decisions

  abbrev leaf : Cell → Bool
  leaf c = is_some (decided c)

  abbrev walks : ℕ → Cell → Bool
  walks k a = has_walk (keys q.book.texts) (steps_to q.book leaf) k a

  -- ---- cells that are blocked
  -- a needed cell without a form is blocked
  blocked_only : (b : Cell) → IsNeeded q (place.Cell b) → (f : CellForm) → form_of q.book decided b ≡ f → form_in f ≡ None → (p : Place) × (f ≡ Blocked p)
  blocked_only b n (Form f) e h = cc
  blocked_only b n (Refused at cause) e h = absurd (all.0.1 (place.Cell b) (at, cause, (n, ap Some e)))
  blocked_only b n Circular e h = absurd (all.0.0.1 (place.Cell b) (n, ap Some e))
  blocked_only b n Malformed e h = absurd (all.0.0.0 (place.Cell b) (n, ap Some e))
  blocked_only b n (Blocked p) e h = (p, refl)

  step : (a b : Cell) → LooksAt q.book decided a b → steps_to q.book leaf a b ≡ true
  step a b l = both (not (leaf a)) (refers (entry q.book a) b) (ap (λ d. not (is_some d)) l.0) (looked_is_referred q.book decided a b l)

  -- so walks of any length start at a needed cell that is blocked
  walk : (k : ℕ) (a : Cell) (p : Place) → IsNeeded q (place.Cell a) → form_of q.book decided a ≡ Blocked p → walks k a ≡ true
  walk zero a p n h = refl
  walk (suc k) a p n h =
      let r = blocked_by_least q.book decided a p h in
      let m = needed.looked (place.Cell a) r.0 n r.2.looked in
      let s = blocked_only r.0 m (form_of q.book decided r.0) refl r.2.without in
      found_text q.book r.0 (λ b. steps_to q.book leaf a b && walks k b) r.2.looked.2
      (both (steps_to q.book leaf a r.0) (walks k r.0) (step a r.0 r.2.looked) (walk k r.0 s.0 m s.1))

  not_blocked : (a : Cell) (p : Place) → IsNeeded q (place.Cell a) → form_of q.book decided a ≡ Blocked p → ⊥
  not_blocked a p n h =
      let r = blocked_by_least q.book decided a p h in
      let w = walk (length (keys q.book.texts)) a p n h in
      let f = formula_refers (entry q.book a) r.0 (looked_is_referred q.book decided a r.0 r.2.looked) in
      let c = both (is_formula (entry q.book a)) (not (leaf a) && walks (length (keys q.book.texts)) a) f
      (both (not (leaf a)) (walks (length (keys q.book.texts)) a) (ap (λ d. not (is_some d)) r.2.looked.0) w) in
      let m : Circular ≡ Blocked p = sym (circle_is_circular q.book decided a c) ∙ h in
      cc

  -- ---- numbers
  abbrev zeros : List ℚ
  zeros = replicate (length q.decisions) zero_ℚ

  no_number : (p : Place) → Contains q.roots p → worth_at q.book q.sides q.decisions p zeros ≡ None → ⊥
  no_number p i h = all.1 p (record { root = i; assignment = zeros; one_each = length-replicate (length q.decisions) zero_ℚ; none = h })

  -- a root with a form has that of a number
  has_number : (p : Place) → Contains q.roots p → (f : Abs) → option_and_then form_in (form_at q.book q.sides q.decisions p) ≡ Some f
      → worth_at q.book q.sides q.decisions p zeros ≡ number_in (abs_at (assigned zeros) f) → (g : AffineForm) × HasForm q.book q.sides q.decisions p g
  has_number p i (Affine g) e w = (g.form, ap (option_and_then number_form) e)
  has_number p i (Known (Number x)) e w = (constant_form x, ap (option_and_then number_form) e)
  has_number p i (Known Empty) e w = (constant_form zero_ℚ, ap (option_and_then number_form) e)
  has_number p i (Known (Text t)) e w = absurd (no_number p i w)
  has_number p i (Known (Logical b)) e w = absurd (no_number p i w)
  has_number p i (Known (Error k)) e w = absurd (no_number p i w)
  has_number p i (Test f r) e w = absurd (no_number p i w)

  -- ---- cells
  cell_number : (c : Cell) → Contains q.roots (place.Cell c) → (g : AffineForm) × HasForm q.book q.sides q.decisions (place.Cell c) g
  cell_number c i = by (decided c) refl
    where
      open_form : IsNeeded q (place.Cell c) → (f : CellForm) → form_of q.book decided c ≡ f → (g : AffineForm) × HasForm q.book q.sides q.decisions (place.Cell c) g
      open_form n (Form f) e = has_number (place.Cell c) i f (ap form_in e) (ap number_in (form_is_the_value q.book decided c f e (assigned zeros)))
      open_form n (Refused at cause) e = absurd (all.0.1 (place.Cell c) (at, cause, (n, ap Some e)))
      open_form n Circular e = absurd (all.0.0.1 (place.Cell c) (n, ap Some e))
      open_form n Malformed e = absurd (all.0.0.0 (place.Cell c) (n, ap Some e))
      open_form n (Blocked p) e = absurd (not_blocked c p n e)

      by : (d : Option ℕ) → decided c ≡ d → (g : AffineForm) × HasForm q.book q.sides q.decisions (place.Cell c) g
      by (Some j) e = (decision_form j, ap (λ f. option_and_then number_form (form_in f)) (decision_is_itself q.book decided c j e))
      by None e = open_form (needed.root (place.Cell c) i e) (form_of q.book decided c) refl

  -- ---- sides
  abbrev forms : Cell → Option Abs
  forms = forms_of q.book decided

  -- a needed side isn't blocked
  side_open : (k : ℕ) (t : Tree) → tree_of q.sides k ≡ Some t → IsNeeded q (place.Side k) → (p : Place) (w : Bool) → refers_to_circle q.book leaf t ≡ w
      → (if w then Circular else formula_form (forms_of q.book decided) t) ≡ Blocked p → ⊥
  side_open k t e n p true v h = cc
  side_open k t e n p false v h = by (least_without forms (part_of forms t).looks) refl (part_of forms t).outcome h
    where
      by : (l : Option Cell) → least_without forms (part_of forms t).looks ≡ l → (o : Outcome) → by_looks l o ≡ Blocked p → ⊥
      by None m (outcome.Gives v) h = cc
      by None m (outcome.Refused at cause) h = cc
      by None m outcome.Without h = cc
      by (Some b) m o h =
          let r = least_is forms (part_of forms t).looks b m in
          let d = no_form q.book decided b r.without in
          let l : PlaceLooksAt q (place.Side k) b = (t, e, (d.0, d.1, subst (λ w. LooksFrom w forms (Some (Formula t)) b) (sym v) r.there)) in
          let s = blocked_only b (needed.looked (place.Side k) b n l) (form_of q.book decided b) refl r.without in
          not_blocked b s.0 (needed.looked (place.Side k) b n l) s.1

  side_number : (k : ℕ) → Contains q.roots (place.Side k) → (g : AffineForm) × HasForm q.book q.sides q.decisions (place.Side k) g
  side_number k i = by (tree_of q.sides k) refl
    where
      there : (t : Tree) (f : CellForm) → tree_of q.sides k ≡ Some t → side_form q.book decided t ≡ f → form_at q.book q.sides q.decisions (place.Side k) ≡ Some f
      there t f e h = ap (option_map (side_form q.book decided)) e ∙ ap Some h

      of_form : (t : Tree) → tree_of q.sides k ≡ Some t → IsNeeded q (place.Side k) → (f : CellForm) → side_form q.book decided t ≡ f → (g : AffineForm) × HasForm q.book q.sides q.decisions (place.Side k) g
      of_form t e n (Form f) h =
          has_number (place.Side k) i f (ap (option_and_then form_in) (there t (Form f) e h))
          (ap (λ o. option_and_then number_in (option_map (side_value q.book (put_over q.decisions zeros)) o)) e
          ∙ ap number_in (side_is_the_value q.book decided t f h (assigned zeros)))
      of_form t e n (Refused at cause) h = absurd (all.0.1 (place.Side k) (at, cause, (n, there t (Refused at cause) e h)))
      of_form t e n Circular h = absurd (all.0.0.1 (place.Side k) (n, there t Circular e h))
      of_form t e n Malformed h = absurd (all.0.0.0 (place.Side k) (n, there t Malformed e h))
      of_form t e n (Blocked p) h = absurd (side_open k t e n p (refers_to_circle q.book leaf t) refl h)

      by : (o : Option Tree) → tree_of q.sides k ≡ o → (g : AffineForm) × HasForm q.book q.sides q.decisions (place.Side k) g
      by None e = absurd (no_number (place.Side k) i (ap (λ o. option_and_then number_in (option_map (side_value q.book (put_over q.decisions zeros)) o)) e))
      by (Some t) e = of_form t e (needed.root (place.Side k) i tt) (side_form q.book decided t) refl

pub forms_where_none_is_refused : FormsWhereNoneIsRefused
forms_where_none_is_refused q all (place.Cell c) i = cell_number q all c i
forms_where_none_is_refused q all (place.Side k) i = side_number q all k i
