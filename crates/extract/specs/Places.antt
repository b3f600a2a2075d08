-- The forms of places, which are cells and sides, and what places look at.
use Rattle.std.specs.Prelude.{◌≡◌, ℕ, Bool, true, Option, Some, None, is_some, Contains, ⊤}
use Rattle.std.specs.FinMap.{contains_key}
use Rattle.cell_refs.specs.declared.cell.Cell.{Cell}
use Rattle.cell_refs.specs.declared.span.Span.{Span}
use Rattle.formula_ast.specs.Tree.{Tree}
use Rattle.sheet_model.specs.declared.value.Value.{Value}
use Rattle.recalculation.specs.Entries.{Book, Formula, Overriding, entry}
use Rattle.recalculation.specs.Recalculation.{val}
use Rattle.recalculation.specs.Walks.{is_circular, is_formula}
use Rattle.affine_forms.specs.Forms.{Assignment}
use Rattle.form_values.specs.Meaning.{abs_at}
use Rattle.form_values.specs.declared.abs.Abs.{Abs}
use Rattle.cell_refs.specs.declared.place.Place.{Place}
use Rattle.cell_refs.specs.declared.place.Place.TheVariants as place
use Rattle.form_extraction.specs.declared.forms.CellForm.{CellForm}
use Rattle.form_extraction.specs.declared.forms.CellForm.TheVariants.{Form, Refused}
use Rattle.form_extraction.specs.declared.forms.Why.{Why}
use Rattle.form_extraction.specs.Formulas.{part_of}
use Rattle.form_extraction.specs.Places.{Decisions, overriding, form_of}
use Rattle.form_extraction.specs.Looked.{forms_of, LooksAt, refers_to_circle, side_form, side_value}
use Rattle.form_extraction.specs.Refuted.{IsRefuted}
use Rattle.extract.specs.Tables.{Table, form_at}

-- ---- places and their trees
-- a tree is that of the formula in a cell; of a side it is the side's own
abbrev pub IsTreeOf : Book → Place → Tree → Type 0
IsTreeOf book (place.Cell a) t = entry book a ≡ Some (Formula t)
IsTreeOf book (place.Side k) t = ⊤

-- the number of a cell that is to be decided; a side has none
abbrev pub decision_at : Decisions → Place → Option ℕ
decision_at decisions (place.Cell a) = decisions a
decision_at decisions (place.Side k) = None

-- whether a cell is circular, and whether a side refers to such a cell, where the cells to be decided refer to nothing
abbrev pub is_in_circle : Book → Decisions → Place → Tree → Bool
is_in_circle book decisions (place.Cell a) t = is_circular book (λ b. is_some (decisions b)) a
is_in_circle book decisions (place.Side k) t = refers_to_circle book (λ b. is_some (decisions b)) t

-- ---- forms
-- the form of a place
abbrev pub place_form : Book → Decisions → Place → Tree → CellForm
place_form book decisions (place.Cell a) t = form_of book decisions a
place_form book decisions (place.Side k) t = side_form book decisions t

-- a table has the forms of the formula cells at which a tree looks
abbrev pub HasForms : Book → Decisions → Table → Tree → Type 0
HasForms book decisions table t =
    (b : Cell) → Contains (part_of (forms_of book decisions) t).looks b → decisions b ≡ None → is_formula (entry book b) ≡ true
    → form_at table (place.Cell b) ≡ Some (form_of book decisions b)

-- the value of a place
abbrev pub place_value : Book → Overriding → Place → Tree → Value
place_value book over (place.Cell a) t = val book over a
place_value book over (place.Side k) t = side_value book over t

-- under every assignment of numbers to the cells to be decided, a form has the value of the place
abbrev pub IsTheValue : Book → Decisions → Place → Tree → CellForm → Type 0
IsTheValue book decisions p t form = (f : Abs) → form ≡ Form f → (x : Assignment) → place_value book (overriding decisions x) p t ≡ abs_at x f

-- a refusal is right: the part that isn't affine bends, and the one that is undecided varies
abbrev pub IsRightly : Book → Decisions → Tree → CellForm → Type 0
IsRightly book decisions t form = (at : Span) (cause : Why) → form ≡ Refused at cause → IsRefuted (λ x. val book (overriding decisions x)) t at cause

-- ---- what is looked at
-- whether a place looks at a cell that has a text and isn't to be decided
abbrev pub PlaceLooksAt : Book → Decisions → Place → Tree → Cell → Type 0
PlaceLooksAt book decisions (place.Cell a) t b = LooksAt book decisions a b
PlaceLooksAt book decisions (place.Side k) t b =
    (decisions b ≡ None) × (contains_key book.texts b ≡ true) × Contains (part_of (forms_of book decisions) t).looks b
