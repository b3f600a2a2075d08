-- The forms of cells, as far as a workbook tells them and a table has them.
use Rattle.std.specs.Prelude.{ℕ, Bool, not, ◌&&◌, List, Option, Some, None, is_some}
use Rattle.std.specs.FinMap.{contains_key}
use Rattle.cell_refs.specs.declared.cell.Cell.{Cell}
use Rattle.sheet_model.specs.declared.value.Value.TheVariants.{Empty}
use Rattle.recalculation.specs.Entries.{Book, Entry, Constant, Formula, Malformed, entry}
use Rattle.form_values.specs.Entries.{open_decision}
use Rattle.form_values.specs.declared.abs.Abs.{Abs}
use Rattle.form_values.specs.declared.abs.Abs.TheVariants.{Known, Affine}
use Rattle.cell_refs.specs.declared.place.Place.TheVariants as place
use Rattle.form_extraction.specs.declared.forms.CellForm.{CellForm}
use Rattle.form_extraction.specs.Places.{form_in, numbered_in}
use Rattle.extract.specs.Tables.{Table, form_at}

-- ---- what is known
abbrev pub form_kept : Option CellForm → Option Abs
form_kept None = None
form_kept (Some form) = form_in form

-- what a cell says has the form that is kept where it is a formula
abbrev pub form_said : Option Entry → Option CellForm → Option Abs
form_said None kept = Some (Known Empty)
form_said (Some (Constant v)) kept = Some (Known v)
form_said (Some (Formula t)) kept = form_kept kept
form_said (Some Malformed) kept = None

abbrev pub decided_or : Option ℕ → Option Abs → Option Abs
decided_or (Some j) form = Some (Affine (open_decision j))
decided_or None form = form

abbrev pub known_form : Book → List Cell → Table → Cell → Option Abs
known_form book adj table a = decided_or (numbered_in adj a) (form_said (entry book a) (form_at table (place.Cell a)))

-- whether a cell has a text and isn't to be decided
abbrev pub is_open_text : Book → List Cell → Cell → Bool
is_open_text book adj a = not (is_some (numbered_in adj a)) && contains_key book.texts a
