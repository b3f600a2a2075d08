-- Where the sheet has forms of its own over its decisions, they are those with the values put in.
use Rattle.std.proofs.Common.{◌≡◌, List, [], ◌∷◌, ◌++◌, length, Option, Some, None, refl, sym, ap, ap₂, ◌∙◌}
use Rattle.std.specs.Prelude.{option_map}
use Rattle.std.specs.List.{AllZip}
use Rattle.std.specs.Option.{option_and_then}
use Rattle.optimality.specs.Problem.{Goal}
use Rattle.fractions.specs.Rational.{ℚ}
use Rattle.cell_refs.specs.declared.cell.Cell.{Cell}
use Rattle.recalculation.specs.Entries.{Book}
use Rattle.affine_forms.specs.Forms.{Assignment, AffineForm}
use Rattle.linear_models.specs.Conditions.{constraints, goal_or_greatest, objective_where}
use Rattle.cell_refs.specs.declared.place.Place.{Place}
use Rattle.cell_refs.specs.declared.place.Place.TheVariants as place
use Rattle.solver_names.specs.Statement.{RowOf}
use Rattle.sheet_problems.specs.Forms.{HasForm, HasSides, conditions_of}
use Rattle.sheet_problems.specs.Places.{Sides, number_in}
use Rattle.sheet_problems.proofs.Placed.{place_worth}
use Rattle.parameter_laws.specs.Putting.{joined}
use Rattle.parameter_laws.specs.Statements.{form_at, sides_at}
use Rattle.parameter_laws.proofs.OneForm.{one_form_laws}
use Rattle.parameter_laws.proofs.Stated.{side_is}
use Rattle.parameter_problems.specs.Laws.{QuickModelIsTheLinearModel}
use Rattle.parameter_problems.specs.Opened.{HoldsValues}
use Rattle.parameter_problems.proofs.Held.{held_is_overridden}
use Rattle.parameter_problems.proofs.PlaceForms.{place_is_form}

some_is : {x y : ℚ} → Some x ≡ Some y → x ≡ y
some_is e = cc

module _ (before after : Book) (sides : Sides) (decisions parameters : List Cell) (y : Assignment) (holds : HoldsValues before decisions parameters y after) where
  form_is : (p : Place) (f own : AffineForm) → HasForm before sides (decisions ++ parameters) p f → HasForm after sides decisions p own → own ≡ form_at (length decisions) y f
  form_is p f own h k =
      one_form_laws.only (length decisions) y f own (place_is_form before sides (decisions ++ parameters) p f h) (place_is_form after sides decisions p own k)
      (λ x. some_is (sym (place_worth after sides decisions p own k x)
      ∙ ap (option_and_then number_in) (held_is_overridden before after sides decisions parameters y holds x p)
      ∙ place_worth before sides (decisions ++ parameters) p f h (joined (length decisions) x y)))

  sides_are : (rs : List RowOf) (forms own : List (AffineForm × AffineForm)) → AllZip (HasSides before sides (decisions ++ parameters)) rs forms
      → AllZip (HasSides after sides decisions) rs own → own ≡ sides_at (length decisions) y forms
  sides_are [] [] [] h k = refl
  sides_are [] [] (o ∷ os) h k = absurd k
  sides_are [] (f ∷ fs) os h k = absurd h
  sides_are (r ∷ rs) [] os h k = absurd h
  sides_are (r ∷ rs) (f ∷ fs) [] h k = absurd k
  sides_are (r ∷ rs) (f ∷ fs) (o ∷ os) h k =
      ap₂ (λ (pair : AffineForm × AffineForm) pairs. pair ∷ pairs)
      ((λ i. (form_is (place.Cell r.left) f.0 o.0 h.0.left k.0.left i, form_is r.right f.1 o.1 h.0.right k.0.right i)) ∙ sym (side_is (length decisions) y f))
      (sides_are rs fs os h.1 k.1)

  objective_is : (o : Option Cell) (g : Goal) (f own : AffineForm) → ((c : Cell) → o ≡ Some c → HasForm before sides (decisions ++ parameters) (place.Cell c) f)
      → ((c : Cell) → o ≡ Some c → HasForm after sides decisions (place.Cell c) own)
      → objective_where (option_map (λ (c : Cell). g) o) own ≡ objective_where (option_map (λ (c : Cell). g) o) (form_at (length decisions) y f)
  objective_is None g f own h k = refl
  objective_is (Some c) g f own h k = ap Some (form_is (place.Cell c) f own (h c refl) (k c refl))

pub quick_model_is_the_linear_model : QuickModelIsTheLinearModel
quick_model_is_the_linear_model before after sides s parameters y objective own rows own_rows h holds k =
    let c = conditions_of s in
    λ i. record {
      decisions = c.decisions;
      goal = goal_or_greatest c.goal;
      objective = objective_is before after sides s.decisions parameters y holds s.objective s.goal objective own h.objective k.objective i;
      rows = constraints c.rows (sides_are before after sides s.decisions parameters y holds s.rows rows own_rows h.rows k.rows i);
      whole = c.whole;
      binary = c.binary;
      explicit = c.explicit;
      not_negative = c.not_negative;
      groups = c.groups;
    }
