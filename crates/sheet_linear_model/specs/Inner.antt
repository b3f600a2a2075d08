-- What inner contracts cite.
use Rattle.std.specs.Prelude.{◌≡◌, ◌<◌, ◌≤◌, ℕ, Bool, true, false, List, [], ◌∷◌, length, Option, Some, None, Result, Ok, Err, is_some, ⊤}
use Rattle.std.specs.Option.{option_and_then}
use Rattle.cell_refs.specs.declared.adj.TheConstants.{DECISIONS}
use Rattle.fractions.specs.Rational.{zero_ℚ}
use Rattle.affine_forms.specs.Forms.{AffineForm, constant_form, decision_form}
use Rattle.cell_refs.specs.declared.cell.Cell.{Cell}
use Rattle.recalculation.specs.Entries.{Book, entry}
use Rattle.workbook.specs.Contents.{kind_of}
use Rattle.workbook.specs.Kinds.{book_of}
use Rattle.workbook.specs.State.{State}
use Rattle.workbook.specs.declared.kind.Kind.{Kind}
use Rattle.workbook.specs.declared.kind.Kind.TheVariants as kind
use Rattle.cell_refs.specs.declared.place.Place.{Place}
use Rattle.cell_refs.specs.declared.place.Place.TheVariants as place
use Rattle.form_extraction.specs.declared.forms.CellForm.{CellForm}
use Rattle.form_extraction.specs.Places.{form_in, numbered_in}
use Rattle.linear_models.specs.Linear.{linear, wide_row}
use Rattle.linear_models.specs.Model.{Model}
use Rattle.linear_models.specs.Statement as rows
use Rattle.solver_names.specs.Sides.{sides_in}
use Rattle.solver_names.specs.Statement.{RowOf, Statement}
use Rattle.solver_names.specs.Stated.{statement_in}
use Rattle.solver_names.specs.declared.fault.NamesFault.{NamesFault}
use Rattle.solver_names.specs.declared.fault.NamesFault.TheVariants as told
use Rattle.form_needs.specs.FromSheetProblems.{form_at, number_form}
use Rattle.form_needs.specs.FromSheetProblems.{Sides}
use Rattle.statement_laws.specs.Laws.{IsWhole}
use Rattle.kept_forms.specs.FromNeededCells.{IsSettled}
use Rattle.kept_forms.specs.FromExtractIncr.{Kept}
use Rattle.commands.specs.declared.answer.Answer.TheVariants as answer
use Rattle.sheet_linear_model.specs.Answers.{parts_in}
use Rattle.sheet_linear_model.specs.declared.prepared.NoModel.{NoModel}
use Rattle.sheet_linear_model.specs.declared.prepared.NoModel.TheVariants as none

-- ---- statements
-- the names of its sheet state this
pub record IsStatement (book : State) (s : Statement) : Type 0 where
  pub listed : s.sheet < length book.sheets
  pub stated : statement_in book s.sheet ≡ Ok s
  pub few : length s.decisions ≤ DECISIONS
  pub whole : IsWhole book s

-- the forms of its sides and of all formulas over its decision cells are kept
pub record IsKeptFor (book : State) (s : Statement) (k : Kept) : Type 0 where
  pub decisions : k.decisions ≡ s.decisions
  pub sides : k.sides ≡ sides_in book s.sheet
  pub settled : IsSettled (book_of book) k.sides k.decisions k.table

-- a fault of the names as the cause why there is no model
abbrev pub stop_of : NamesFault → NoModel
stop_of told.Memory = none.Memory
stop_of e = none.Refused (answer.Names e)

-- the names have a fault, and give nothing to those that keep forms
abbrev pub GivesNone : State → ℕ → NoModel → Type 0
GivesNone book sheet none.Memory = ⊤
GivesNone book sheet (none.Refused a) = parts_in book sheet ≡ None

-- ---- forms as numbers
-- the number that a form is, where it is one
abbrev pub number_in_form : CellForm → Option AffineForm
number_in_form f = option_and_then number_form (form_in f)

-- the number of a cell that is to be decided, or whose text is no formula
abbrev pub number_said : Option ℕ → Kind → Option AffineForm
number_said (Some j) k = Some (decision_form j)
number_said None kind.Empty = Some (constant_form zero_ℚ)
number_said None (kind.Number x) = Some (constant_form x)
number_said None _ = None

-- the number of a place whose form isn't kept
abbrev pub number_unkept : Book → List Cell → Place → Option AffineForm
number_unkept book decisions (place.Cell c) = number_said (numbered_in decisions c) (kind_of (entry book c))
number_unkept book decisions (place.Side k) = None

-- the number that the form of a place is, where it is one
abbrev pub number_at : Book → Sides → List Cell → Place → Option AffineForm
number_at book sides decisions p = option_and_then number_form (option_and_then form_in (form_at book sides decisions p))

-- the same with the sides of a statement
abbrev pub number_for : State → Statement → Place → Option AffineForm
number_for book s p = number_at (book_of book) (sides_in book s.sheet) s.decisions p

abbrev pub HasNumber : State → Statement → Place → Type 0
HasNumber book s p = is_some (number_for book s p) ≡ true

pub record RowHasNumbers (book : State) (s : Statement) (r : RowOf) : Type 0 where
  pub left : HasNumber book s (place.Cell r.left)
  pub right : HasNumber book s r.right

-- ---- models
-- the linear model where the difference of each row is narrow, and else the first row whose difference isn't
abbrev pub IsModelled : rows.Statement → Result Model NoModel → Type 0
IsModelled s (Ok m) = (m ≡ linear s) × (wide_row s ≡ None)
IsModelled s (Err (none.Refused (answer.WideRow k))) = wide_row s ≡ Some k
IsModelled s (Err none.Memory) = ⊤
IsModelled s (Err _) = ⊥

-- ---- lines
-- the number of a row that isn't a bound
abbrev pub number_where : Bool → ℕ → List ℕ
number_where true k = []
number_where false k = k ∷ []
