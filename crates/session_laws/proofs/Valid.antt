-- The linear model of a sheet is valid.
use Rattle.std.proofs.Common.{◌≡◌, ℕ, List, [], ◌∷◌, Option, Some, None, map, refl, sym, subst}
use Rattle.std.specs.Prelude.{option_map}
use Rattle.std.specs.List.{AllByRecursion, AllZip}
use Rattle.std.specs.Option.{option_and_then}
use Rattle.optimality.specs.Problem.{Goal}
use Rattle.affine_forms.specs.Forms.{AffineForm, IsForm}
use Rattle.cell_refs.specs.declared.cell.Cell.{Cell}
use Rattle.sheet_model.specs.declared.value.Value.TheVariants.{Empty, Error, Logical, Number, Text}
use Rattle.form_values.specs.declared.abs.Abs.{Abs}
use Rattle.form_values.specs.declared.abs.Abs.TheVariants.{Affine, Known, Test}
use Rattle.form_values.proofs.Opening.{open_has_a_term}
use Rattle.form_extraction.specs.Places.{form_in}
use Rattle.linear_models.specs.Conditions.{constraints, objective_where}
use Rattle.linear_models.specs.Model.{IsValid, Model}
use Rattle.linear_models.proofs.Valid.{SidesAreForms, linear_is_valid}
use Rattle.recalculation.specs.Entries.{Book}
use Rattle.workbook.specs.Kinds.{book_of}
use Rattle.workbook.specs.State.{State}
use Rattle.cell_refs.specs.declared.place.Place.{Place}
use Rattle.cell_refs.specs.declared.place.Place.TheVariants as place
use Rattle.solver_names.specs.Sides.{sides_in}
use Rattle.solver_names.specs.Statement.{RowOf}
use Rattle.sheet_problems.specs.Forms.{HasForm, HasSides, condition_of, form_at, number_form}
use Rattle.sheet_problems.specs.Places.{Sides}
use Rattle.sheet_problems.proofs.Fitting.{forms_fit}
use Rattle.session.specs.FromSheetLinearModel.{IsPrepared, Prepared, rows_of}

some_is : {f g : AffineForm} → Some f ≡ Some g → f ≡ g
some_is e = cc

number_is_form : (a : Abs) (f : AffineForm) → number_form a ≡ Some f → IsForm f
number_is_form (Affine o) f e = subst IsForm (some_is e) (open_has_a_term o).0
number_is_form (Known (Number x)) f e = subst IsForm (some_is e) (record { rise = tt })
number_is_form (Known Empty) f e = subst IsForm (some_is e) (record { rise = tt })
number_is_form (Known (Text text)) f e = absurd cc
number_is_form (Known (Logical b)) f e = absurd cc
number_is_form (Known (Error kind)) f e = absurd cc
number_is_form (Test o r) f e = absurd cc

number_in : (o : Option Abs) (f : AffineForm) → option_and_then number_form o ≡ Some f → IsForm f
number_in None f e = absurd cc
number_in (Some a) f e = number_is_form a f e

module _ (book : Book) (sides : Sides) (decisions : List Cell) where
  place_is_form : (p : Place) (f : AffineForm) → HasForm book sides decisions p f → IsForm f
  place_is_form p f h = number_in (option_and_then form_in (form_at book sides decisions p)) f h

  sides_are_forms : (rs : List RowOf) (forms : List (AffineForm × AffineForm)) → AllZip (HasSides book sides decisions) rs forms
      → AllByRecursion SidesAreForms (constraints (map (condition_of decisions) rs) forms)
  sides_are_forms [] [] h = tt
  sides_are_forms [] (f ∷ fs) h = absurd h
  sides_are_forms (r ∷ rs) [] h = absurd h
  sides_are_forms (r ∷ rs) (f ∷ fs) h = ((place_is_form (place.Cell r.left) f.0 h.0.left, place_is_form r.right f.1 h.0.right), sides_are_forms rs fs h.1)

  objective_is_form : (o : Option Cell) (g : Goal) (objective f : AffineForm) → ((c : Cell) → o ≡ Some c → HasForm book sides decisions (place.Cell c) objective)
      → objective_where (option_map (λ (c : Cell). g) o) objective ≡ Some f → IsForm f
  objective_is_form None g objective f h e = absurd cc
  objective_is_form (Some c) g objective f h e = subst IsForm (some_is e) (place_is_form (place.Cell c) objective (h c refl))

pub model_is_valid : (book : State) (sheet : ℕ) (p : Prepared) → IsPrepared book sheet p → IsValid p.model
model_is_valid book sheet p h =
    let s = p.statement in
    let b = book_of book in
    let sides = sides_in book s.sheet in
    let forms = h.forms.forms in
    subst (λ (m : Model). IsValid m) (sym h.model)
    (linear_is_valid (rows_of s p.objective p.sides) (forms_fit book sheet s p.objective p.sides h.forms.stated forms).1 (sides_are_forms b sides s.decisions s.rows p.sides forms.rows)
    (λ f e. objective_is_form b sides s.decisions s.objective s.goal p.objective f forms.objective e))
