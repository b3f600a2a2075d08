-- What roots are worth: a number where they have the form of one, and else none.
use Rattle.std.specs.Prelude.{Contains, IsSome}
use Rattle.std.proofs.Common.{◌≡◌, refl, sym, ap, ◌∙◌, List, Option, Some, None, option_map, ℕ, length}
use Rattle.std.specs.Option.{option_and_then}
use Rattle.std.proofs.lemmas.List.{length-replicate}
use Rattle.std.proofs.Math.ListN.{replicate}
use Rattle.fractions.specs.Rational.{ℚ, zero_ℚ}
use Rattle.fractions.specs.Vectors.{at}
use Rattle.formula_ast.specs.Tree.{Tree}
use Rattle.sheet_model.specs.declared.value.Value.TheVariants.{Number, Text, Logical, Empty, Error}
use Rattle.affine_forms.specs.Assigned.{assigned}
use Rattle.affine_forms.specs.Forms.{AffineForm, Assignment, worth}
use Rattle.form_values.specs.Meaning.{abs_at}
use Rattle.form_values.specs.declared.abs.Abs.{Abs}
use Rattle.form_values.specs.declared.abs.Abs.TheVariants.{Known, Affine, Test}
use Rattle.cell_refs.specs.declared.place.Place.{Place}
use Rattle.cell_refs.specs.declared.place.Place.TheVariants as place
use Rattle.form_extraction.specs.declared.forms.CellForm.{CellForm}
use Rattle.form_extraction.specs.declared.forms.CellForm.TheVariants.{Form}
use Rattle.form_extraction.specs.Looked.{side_form, side_value}
use Rattle.form_extraction.specs.Places.{form_in, form_of, numbered_in, overriding}
use Rattle.form_extraction.proofs.Books.{form_is_the_value}
use Rattle.form_extraction.proofs.Cells.{side_is_the_value}
use Rattle.form_needs.specs.FromSheetProblems.{HasForm, form_at, number_form}
use Rattle.form_needs.specs.FromSheetProblems.{number_in, tree_of, value_at}
use Rattle.form_needs.proofs.FromSheetProblems.{decision_is_its_number}
use Rattle.form_needs.proofs.FromSheetProblems.{place_worth}
use Rattle.form_needs.specs.FirstRefusal.{IsNoNumber, NoneRefused}
use Rattle.form_needs.specs.Needed.{Asked, IsNeeded}
use Rattle.form_needs.specs.Needed as needed
use Rattle.needed_cells.specs.Settled.{IsRoot}
use Rattle.needed_forms.proofs.Blocked.{has_form}

-- a value without the form of a number is none
no_number : (x : Assignment) (a : Abs) → number_form a ≡ None → number_in (abs_at x a) ≡ None
no_number x (Affine f) e = cc
no_number x (Known (Number y)) e = cc
no_number x (Known Empty) e = cc
no_number x (Known (Text t)) e = refl
no_number x (Known (Logical b)) e = refl
no_number x (Known (Error k)) e = refl
no_number x (Test f r) e = refl

module _ (q : Asked) where
  abbrev form_here : Place → Option CellForm
  form_here = form_at q.book q.sides q.decisions

  -- a place with a form has its value
  form_value : (p : Place) (a : Abs) → form_here p ≡ Some (Form a) → (x : Assignment) → value_at q.book q.sides (overriding (numbered_in q.decisions) x) p ≡ Some (abs_at x a)
  form_value (place.Cell c) a e x =
      let f : form_of q.book (numbered_in q.decisions) c ≡ Form a = cc in
      ap Some (form_is_the_value q.book (numbered_in q.decisions) c a f x)
  form_value (place.Side k) a e x = of_tree (tree_of q.sides k) refl e
    where
      of_tree : (o : Option Tree) → tree_of q.sides k ≡ o → option_map (side_form q.book (numbered_in q.decisions)) o ≡ Some (Form a)
          → value_at q.book q.sides (overriding (numbered_in q.decisions) x) (place.Side k) ≡ Some (abs_at x a)
      of_tree None r e = cc
      of_tree (Some t) r e =
          let f : side_form q.book (numbered_in q.decisions) t ≡ Form a = cc in
          ap (option_map (side_value q.book (overriding (numbered_in q.decisions) x))) r ∙ ap Some (side_is_the_value q.book (numbered_in q.decisions) t a f x)

  -- ---- roots that aren't numbers
  abbrev zeros : List ℚ
  zeros = replicate (length q.decisions) zero_ℚ

  pub is_no_number : (p : Place) (a : Abs) → Contains q.roots p → form_here p ≡ Some (Form a) → number_form a ≡ None → IsNoNumber q p
  is_no_number p a i e n =
      record {
        root = i;
        assignment = zeros;
        one_each = length-replicate (length q.decisions) zero_ℚ;
        none = ap (option_and_then number_in) (form_value p a e (assigned zeros)) ∙ no_number (assigned zeros) a n;
      }

  -- ---- roots that are numbers
  -- a place with the form of a number is one
  no_form_of_number : (p : Place) (a : Abs) → form_here p ≡ Some (Form a) → IsNoNumber q p → number_form a ≡ None
  no_form_of_number p a e h = by (number_form a) refl
    where
      by : (o : Option AffineForm) → number_form a ≡ o → o ≡ None
      by None r = refl
      by (Some g) r =
          let f : HasForm q.book q.sides q.decisions p g = ap (λ o. option_and_then number_form (option_and_then form_in o)) e ∙ r in
          let m : Some (worth (assigned h.assignment) g) ≡ None = sym (place_worth q.book q.sides q.decisions p g f (assigned h.assignment)) ∙ h.none in
          cc

  -- a root has a form or a reason why there is none
  root_form : (p : Place) → IsRoot q.sides p → (f : CellForm) × (form_here p ≡ Some f)
  root_form (place.Cell c) r = (form_of q.book (numbered_in q.decisions) c, refl)
  root_form (place.Side k) r = of_tree (tree_of q.sides k) r
    where
      of_tree : (o : Option Tree) → IsSome o → (f : CellForm) × (option_map (side_form q.book (numbered_in q.decisions)) o ≡ Some f)
      of_tree None s = cc
      of_tree (Some t) s = (side_form q.book (numbered_in q.decisions) t, refl)

  -- what is no number is needed, since a decision cell is its number
  no_number_is_needed : (p : Place) → IsNoNumber q p → IsNeeded q p
  no_number_is_needed (place.Side k) h = needed.root (place.Side k) h.root tt
  no_number_is_needed (place.Cell c) h = by (numbered_in q.decisions c) refl
    where
      by : (d : Option ℕ) → numbered_in q.decisions c ≡ d → IsNeeded q (place.Cell c)
      by None d = needed.root (place.Cell c) h.root d
      by (Some j) d =
          let m : Some (at h.assignment j) ≡ None = sym (decision_is_its_number q.book q.sides q.decisions c j d h.assignment) ∙ h.none in
          cc

  -- so it has a form, and not that of a number
  pub no_number_form : NoneRefused q → (p : Place) → IsRoot q.sides p → IsNoNumber q p → (a : Abs) × (form_here p ≡ Some (Form a)) × (number_form a ≡ None)
  no_number_form none p r h =
      let f = root_form p r in
      let a = has_form q none p f.0 (no_number_is_needed p h) f.1 in
      let e : form_here p ≡ Some (Form a.0) = f.1 ∙ ap Some a.1 in
      (a.0, e, no_form_of_number p a.0 e h)
