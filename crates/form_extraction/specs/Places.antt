-- The forms of the cells of a workbook over some decision cells: the layer over the forms of the others, unfolded once more than there
-- are texts, as recalculation is.
use Rattle.std.specs.Prelude.{ℕ, suc, if◌then◌else◌, List, [], ◌∷◌, length, position, slice_index_or, Option, Some, None, is_some, option_map}
use Rattle.std.specs.FinMap.{keys}
use Rattle.std.specs.Ordering.{is_lt}
use Rattle.fractions.specs.Rational.{zero_ℚ}
use Rattle.cell_refs.specs.declared.cell.Cell.{Cell}
use Rattle.cell_refs.specs.Cells.{cell_cmp, is_same_cell}
use Rattle.formula_ast.specs.Tree.{Tree}
use Rattle.sheet_model.specs.declared.value.Value.TheVariants.{Number, Empty}
use Rattle.recalculation.specs.Entries.{Book, Entry, Constant, Formula, Malformed, Overriding, entry}
use Rattle.recalculation.specs.Walks.{is_circular, unfolded}
use Rattle.affine_forms.specs.Forms.{Assignment}
use Rattle.form_values.specs.Entries.{open_decision}
use Rattle.form_values.specs.declared.abs.Abs.{Abs}
use Rattle.form_values.specs.declared.abs.Abs.TheVariants.{Known, Affine}
use Rattle.form_values.specs.declared.abs.AbsArg.{AbsArg}
use Rattle.form_values.specs.declared.abs.AbsArg.TheVariants.{One, Area}
use Rattle.cell_refs.specs.declared.place.Place.TheVariants as place
use Rattle.form_extraction.specs.declared.forms.CellForm.{CellForm}
use Rattle.form_extraction.specs.declared.forms.CellForm.TheVariants.{Form, Blocked, Circular}
use Rattle.form_extraction.specs.declared.forms.CellForm.TheVariants as result
use Rattle.form_extraction.specs.declared.forms.Outcome.{Outcome}
use Rattle.form_extraction.specs.declared.forms.Outcome.TheVariants.{Gives, Refused, Without}
use Rattle.form_extraction.specs.Formulas.{part_of}

-- the form, where there is one
abbrev pub form_in : CellForm → Option Abs
form_in (Form a) = Some a
form_in _ = None

-- the number of a decision cell
abbrev pub Decisions : Type 0
Decisions = Cell → Option ℕ

-- the number, from 0 on, of a cell in a list of decision cells
abbrev pub numbered_in : List Cell → Decisions
numbered_in decisions a = position (is_same_cell a) decisions

-- an assignment puts its numbers in the place of the decision cells
abbrev pub overriding : Decisions → Assignment → Overriding
overriding decisions x a = option_map x (decisions a)

-- ---- what a formula leaves in its cell: the top left element of a grid, and 0 where that is empty
abbrev pub left_by : AbsArg → Abs
left_by (One a) = a
left_by (Area g) = slice_index_or g.items 0 (Known Empty)

abbrev pub filled : Abs → Abs
filled (Known Empty) = Known (Number zero_ℚ)
filled a = a

-- the least of some cells that have no form
abbrev pub lesser : Cell → Option Cell → Cell
lesser a None = a
lesser a (Some b) = if is_lt (cell_cmp a b) then a else b

abbrev pub with_least : (Cell → Option Abs) → Cell → Option Abs → Option Cell → Option Cell
with_least forms a (Some f) least = least
with_least forms a None least = Some (lesser a least)

abbrev pub least_without : (Cell → Option Abs) → List Cell → Option Cell
least_without forms [] = None
least_without forms (a ∷ cells) = with_least forms a (forms a) (least_without forms cells)

abbrev pub by_outcome : Outcome → CellForm
by_outcome (Gives a) = Form (filled (left_by a))
by_outcome (Refused at cause) = result.Refused at cause
by_outcome Without = Circular

-- a formula that looks at a cell without a form is blocked, whatever else stands in it
abbrev pub by_looks : Option Cell → Outcome → CellForm
by_looks (Some a) o = Blocked (place.Cell a)
by_looks None o = by_outcome o

abbrev pub formula_form : (Cell → Option Abs) → Tree → CellForm
formula_form forms t = by_looks (least_without forms (part_of forms t).looks) (part_of forms t).outcome

-- ---- cells
abbrev pub entry_form : (Cell → Option Abs) → Option Entry → CellForm
entry_form forms None = Form (Known Empty)
entry_form forms (Some (Constant v)) = Form (Known v)
entry_form forms (Some (Formula t)) = formula_form forms t
entry_form forms (Some Malformed) = result.Malformed

abbrev pub decision_or : Option ℕ → CellForm → CellForm
decision_or (Some j) f = Form (Affine (open_decision j))
decision_or None f = f

-- the form of a cell over those of the other cells
abbrev pub form_over : Book → Decisions → (Cell → CellForm) → Cell → CellForm
form_over book decisions others a =
    decision_or (decisions a) (if is_circular book (λ b. is_some (decisions b)) a then Circular else entry_form (λ b. form_in (others b)) (entry book a))

unfoldable pub bounded_form : Book → Decisions → ℕ → Cell → CellForm
bounded_form book decisions n a = unfolded (form_over book decisions) Circular n a

-- the form of a cell
unfoldable pub form_of : Book → Decisions → Cell → CellForm
form_of book decisions a = bounded_form book decisions (suc (length (keys book.texts))) a
