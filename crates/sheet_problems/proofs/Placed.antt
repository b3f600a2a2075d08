-- The forms of places are what the places are worth.
use Rattle.std.proofs.Common.{◌≡◌, ◌<◌, ℕ, List, length, Option, Some, None, refl, sym, ap, subst, ◌∙◌}
use Rattle.std.specs.Prelude.{option_map}
use Rattle.std.specs.Option.{option_and_then}
use Rattle.fractions.specs.Rational.{zero_ℚ}
use Rattle.fractions.proofs.Laws.{add-zero}
use Rattle.cell_refs.specs.declared.cell.Cell.{Cell}
use Rattle.formula_ast.specs.Tree.{Tree}
use Rattle.sheet_model.specs.declared.value.Value.TheVariants.{Number, Text, Logical, Empty, Error}
use Rattle.form_extraction.specs.FromRecalculation.{Book}
use Rattle.affine_forms.specs.Assigned.{assigned, ReachTo}
use Rattle.affine_forms.specs.Forms.{Assignment, AffineForm, IsForm, constant_form, worth}
use Rattle.form_values.specs.Meaning.{abs_at}
use Rattle.form_values.proofs.Opening.{open_has_a_term}
use Rattle.form_values.specs.declared.abs.Abs.{Abs}
use Rattle.form_values.specs.declared.abs.Abs.TheVariants.{Known, Affine, Test}
use Rattle.linear_models.specs.Worths.{worth_of}
use Rattle.cell_refs.specs.declared.place.Place.{Place}
use Rattle.cell_refs.specs.declared.place.Place.TheVariants as place
use Rattle.form_extraction.specs.declared.forms.CellForm.{CellForm}
use Rattle.form_extraction.specs.declared.forms.CellForm.TheVariants.{Form, Refused, Blocked, Circular, Malformed}
use Rattle.form_extraction.specs.Places.{form_in, form_of, overriding, numbered_in}
use Rattle.form_extraction.specs.Looked.{side_form, side_value}
use Rattle.form_extraction.proofs.Books.{form_worth}
use Rattle.form_extraction.proofs.Cells.{side_is_the_value}
use Rattle.sheet_problems.specs.Forms.{HasForm, number_form}
use Rattle.sheet_problems.specs.Places.{Sides, number_in, tree_of, value_at, worth_at}
use Rattle.sheet_problems.proofs.Numbers.{equal_numbers, put_alike}
use Rattle.sheet_problems.proofs.Reaching.{form_reaches}

-- ---- forms of numbers
-- a value with the form of a number has its worth
number_worth : (x : Assignment) (a : Abs) (f : AffineForm) → number_form a ≡ Some f → number_in (abs_at x a) ≡ Some (worth x f)
number_worth x (Affine g) f e = let s : g.form ≡ f = cc in ap (λ h. Some (worth x h)) s
number_worth x (Known (Number y)) f e = let s : constant_form y ≡ f = cc in ap Some (sym (add-zero y)) ∙ ap (λ h. Some (worth x h)) s
number_worth x (Known Empty) f e = let s : constant_form zero_ℚ ≡ f = cc in ap Some (sym (add-zero zero_ℚ)) ∙ ap (λ h. Some (worth x h)) s
number_worth x (Known (Text y)) f e = cc
number_worth x (Known (Logical y)) f e = cc
number_worth x (Known (Error k)) f e = cc
number_worth x (Test g r) f e = cc

formed : (f : CellForm) (a : Abs) → form_in f ≡ Some a → f ≡ Form a
formed (Form b) a e = let s : b ≡ a = cc in ap Form s
formed (Refused at cause) a e = cc
formed (Blocked by) a e = cc
formed Circular a e = cc
formed Malformed a e = cc

-- ---- places
-- the form of a place, which is that of a number
pub record Placed (book : Book) (sides : Sides) (decisions : List Cell) (p : Place) (f : AffineForm) : Type 0 where
  pub abs : Abs
  pub number : number_form abs ≡ Some f
  pub value : (x : Assignment) → value_at book sides (overriding (numbered_in decisions) x) p ≡ Some (abs_at x abs)

module _ (book : Book) (sides : Sides) (decisions : List Cell) where
  of_option : (o : Option Abs) (f : AffineForm) → option_and_then number_form o ≡ Some f → (a : Abs) × (o ≡ Some a) × (number_form a ≡ Some f)
  of_option (Some a) f h = (a, refl, h)
  of_option None f h = cc

  pub placed : (p : Place) (f : AffineForm) → HasForm book sides decisions p f → Placed book sides decisions p f
  placed (place.Cell c) f h =
      let r = of_option (form_in (form_of book (numbered_in decisions) c)) f h in
      let e = formed (form_of book (numbered_in decisions) c) r.0 r.1 in
      record { abs = r.0; number = r.2; value = λ x. ap Some (form_worth book (numbered_in decisions) c r.0 e x).1 }
  placed (place.Side k) f h = by_tree (tree_of sides k) refl h
    where
      by_tree : (o : Option Tree) → tree_of sides k ≡ o → option_and_then number_form (option_and_then form_in (option_map (side_form book (numbered_in decisions)) o)) ≡ Some f
          → Placed book sides decisions (place.Side k) f
      by_tree None q e = cc
      by_tree (Some t) q e =
          let r = of_option (form_in (side_form book (numbered_in decisions) t)) f e in
          let s = formed (side_form book (numbered_in decisions) t) r.0 r.1 in
          record {
            abs = r.0;
            number = r.2;
            value = λ x. ap (option_map (side_value book (overriding (numbered_in decisions) x))) q ∙ ap Some (side_is_the_value book (numbered_in decisions) t r.0 s x);
          }

  -- the place is worth its form
  pub place_worth : (p : Place) (f : AffineForm) → HasForm book sides decisions p f → (x : Assignment)
      → option_and_then number_in (value_at book sides (overriding (numbered_in decisions) x) p) ≡ Some (worth x f)
  place_worth p f h x = let r = placed p f h in ap (option_and_then number_in) (r.value x) ∙ number_worth x r.abs f r.number

  pub worth_is : (p : Place) (f : AffineForm) → HasForm book sides decisions p f → worth_at book sides decisions p ≡ worth_of f
  worth_is p f h = λ i a. place_worth p f h (assigned a) i

  -- the form of a value of a number
  reaches : (n : ℕ) (a : Abs) (f : AffineForm) → number_form a ≡ Some f → ((x y : Assignment) → ((j : ℕ) → j < n → x j ≡ y j) → worth x f ≡ worth y f) → ReachTo f.terms n
  reaches n (Affine g) f e same = let s : g.form ≡ f = cc in form_reaches n f (subst IsForm s (open_has_a_term g).0) same
  reaches n (Known (Number y)) f e same = let s : constant_form y ≡ f = cc in subst (λ (h : AffineForm). ReachTo h.terms n) s tt
  reaches n (Known Empty) f e same = let s : constant_form zero_ℚ ≡ f = cc in subst (λ (h : AffineForm). ReachTo h.terms n) s tt
  reaches n (Known (Text y)) f e same = cc
  reaches n (Known (Logical y)) f e same = cc
  reaches n (Known (Error k)) f e same = cc
  reaches n (Test g r) f e same = cc

  -- it has terms in the decisions alone
  pub place_reaches : (p : Place) (f : AffineForm) → HasForm book sides decisions p f → ReachTo f.terms (length decisions)
  place_reaches p f h =
      let r = placed p f h in
      reaches (length decisions) r.abs f r.number
      (λ x y same. let both : Some (worth x f) ≡ Some (worth y f) = sym (place_worth p f h x)
      ∙ ap (option_and_then number_in) (equal_numbers book sides (overriding (numbered_in decisions) x) (overriding (numbered_in decisions) y) (put_alike decisions x y same) p) ∙ place_worth p f h y in cc)
