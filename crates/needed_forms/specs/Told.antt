-- The forms of places as a workbook and the forms that are kept tell them, and what refuses a place by its own form.
use Rattle.std.specs.Prelude.{ℕ, List, Option, Some, None}
use Rattle.std.specs.Option.{option_and_then}
use Rattle.cell_refs.specs.declared.cell.Cell.{Cell}
use Rattle.cell_refs.specs.declared.span.Span.{Span}
use Rattle.sheet_model.specs.declared.value.Value.TheVariants.{Empty}
use Rattle.recalculation.specs.Entries.{Book, Entry, Constant, Formula, entry}
use Rattle.recalculation.specs.Entries as entries
use Rattle.affine_forms.specs.Forms.{AffineForm}
use Rattle.form_values.specs.Entries.{open_decision}
use Rattle.form_values.specs.declared.abs.Abs.TheVariants.{Known, Affine}
use Rattle.workbook.specs.declared.kind.Kind.{Kind}
use Rattle.workbook.specs.declared.kind.Kind.TheVariants as kind
use Rattle.cell_refs.specs.declared.place.Place.{Place}
use Rattle.cell_refs.specs.declared.place.Place.TheVariants as place
use Rattle.form_extraction.specs.declared.forms.CellForm.{CellForm}
use Rattle.form_extraction.specs.declared.forms.CellForm.TheVariants.{Form, Refused, Blocked, Circular, Malformed}
use Rattle.form_extraction.specs.declared.forms.Why.{Why}
use Rattle.form_extraction.specs.declared.forms.Why.TheVariants as why
use Rattle.form_extraction.specs.Places.{numbered_in}
use Rattle.needed_cells.specs.FromExtract.{Table, form_at}
use Rattle.form_needs.specs.FromSheetProblems.{number_form}
use Rattle.form_needs.specs.declared.refusal.FormRefusal.{FormRefusal}
use Rattle.form_needs.specs.declared.refusal.FormRefusal.TheVariants as refusal

-- ---- forms
-- what a cell says has the form that is kept where it is a formula
abbrev pub told_by : Option Entry → Option CellForm → Option CellForm
told_by None kept = Some (Form (Known Empty))
told_by (Some (Constant v)) kept = Some (Form (Known v))
told_by (Some (Formula t)) kept = kept
told_by (Some entries.Malformed) kept = Some Malformed

-- a cell to be decided is its number
abbrev pub decided_or : Option ℕ → Option CellForm → Option CellForm
decided_or (Some j) form = Some (Form (Affine (open_decision j)))
decided_or None form = form

abbrev pub told_form : Book → List Cell → Table → Place → Option CellForm
told_form book adj table (place.Cell a) = decided_or (numbered_in adj a) (told_by (entry book a) (form_at table (place.Cell a)))
told_form book adj table (place.Side k) = form_at table (place.Side k)

-- ---- refusals
abbrev pub unless_number : Place → Option AffineForm → Option FormRefusal
unless_number p (Some f) = None
unless_number p None = Some (refusal.NotNumber p)

abbrev pub refused_as : Place → Span → Why → FormRefusal
refused_as p at why.Break = refusal.NotAffine p at
refused_as p at why.Undecided = refusal.Undecided p at
refused_as p at why.Wide = refusal.Wide p

-- no side is malformed
abbrev pub malformed_at : Place → Option FormRefusal
malformed_at (place.Cell a) = Some (refusal.Malformed a)
malformed_at (place.Side k) = None

-- what refuses a place with this form, where something does: what blocks a place is refused elsewhere
abbrev pub refusal_of : Place → CellForm → Option FormRefusal
refusal_of p (Form a) = unless_number p (number_form a)
refusal_of p (Refused at cause) = Some (refused_as p at cause)
refusal_of p (Blocked by) = None
refusal_of p Circular = Some (refusal.Circular p)
refusal_of p Malformed = malformed_at p

-- what refuses a cell that isn't to be decided, by the kind of its text
abbrev pub refusal_by_kind : Place → Kind → Option CellForm → Option FormRefusal
refusal_by_kind p kind.Empty kept = None
refusal_by_kind p (kind.Number x) kept = None
refusal_by_kind p (kind.Logical b) kept = Some (refusal.NotNumber p)
refusal_by_kind p kind.Plain kept = Some (refusal.NotNumber p)
refusal_by_kind p kind.Formula kept = option_and_then (refusal_of p) kept
refusal_by_kind p kind.Malformed kept = malformed_at p

abbrev pub told_refusal : Book → List Cell → Table → Place → Option FormRefusal
told_refusal book adj table p = option_and_then (refusal_of p) (told_form book adj table p)
