-- The forms of the places that a statement needs, and what it states beside them.
use Rattle.std.specs.Prelude.{◌≡◌, List, length, map, Option, Some, None, option_map}
use Rattle.std.specs.List.{AllZip}
use Rattle.std.specs.Option.{option_and_then}
use Rattle.fractions.specs.Rational.{zero_ℚ}
use Rattle.cell_refs.specs.declared.cell.Cell.{Cell}
use Rattle.sheet_model.specs.declared.value.Value.TheVariants.{Number, Empty}
use Rattle.form_extraction.specs.FromRecalculation.{Book}
use Rattle.affine_forms.specs.Forms.{AffineForm, constant_form}
use Rattle.form_values.specs.declared.abs.Abs.{Abs}
use Rattle.form_values.specs.declared.abs.Abs.TheVariants.{Known, Affine}
use Rattle.linear_models.specs.Conditions.{Condition, Conditions}
use Rattle.cell_refs.specs.declared.place.Place.{Place}
use Rattle.cell_refs.specs.declared.place.Place.TheVariants as place
use Rattle.form_extraction.specs.declared.forms.CellForm.{CellForm}
use Rattle.form_extraction.specs.Places.{form_in, form_of, numbered_in}
use Rattle.form_extraction.specs.Looked.{side_form}
use Rattle.solver_names.specs.Statement.{RowOf, Statement}
use Rattle.sheet_problems.specs.Places.{Sides, tree_of}

-- ---- forms
-- the form of a cell or of a side; none where there is no such side
abbrev pub form_at : Book → Sides → List Cell → Place → Option CellForm
form_at book sides decisions (place.Cell c) = Some (form_of book (numbered_in decisions) c)
form_at book sides decisions (place.Side k) = option_map (side_form book (numbered_in decisions)) (tree_of sides k)

-- the form of a number: what is known is a constant, and what is empty is 0; none for anything else
abbrev pub number_form : Abs → Option AffineForm
number_form (Affine o) = Some o.form
number_form (Known (Number x)) = Some (constant_form x)
number_form (Known Empty) = Some (constant_form zero_ℚ)
number_form a = None

-- the form of the place is that of a number, f
abbrev pub HasForm : Book → Sides → List Cell → Place → AffineForm → Type 0
HasForm book sides decisions p f = option_and_then number_form (option_and_then form_in (form_at book sides decisions p)) ≡ Some f

-- so are those of both sides of a row
pub record HasSides (book : Book) (sides : Sides) (decisions : List Cell) (r : RowOf) (forms : AffineForm × AffineForm) : Type 0 where
  pub left : HasForm book sides decisions (place.Cell r.left) forms.0
  pub right : HasForm book sides decisions r.right forms.1

-- of the objective, where there is one, and of both sides of each row
pub record HasForms (book : Book) (sides : Sides) (s : Statement) (f : AffineForm) (pairs : List (AffineForm × AffineForm)) : Type 0 where
  pub objective : (c : Cell) → s.objective ≡ Some c → HasForm book sides s.decisions (place.Cell c) f
  pub rows : AllZip (HasSides book sides s.decisions) s.rows pairs

-- ---- what is stated beside the forms
abbrev pub condition_of : List Cell → RowOf → Condition
condition_of decisions r = record { own = numbered_in decisions r.left; relation = r.relation }

-- without an objective there is no goal
abbrev pub conditions_of : Statement → Conditions
conditions_of s = record {
  decisions = length s.decisions;
  goal = option_map (λ c. s.goal) s.objective;
  rows = map (condition_of s.decisions) s.rows;
  whole = s.whole;
  binary = s.binary;
  explicit = s.explicit;
  not_negative = s.not_negative;
  groups = s.different;
}
