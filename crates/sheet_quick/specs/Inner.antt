-- What inner contracts cite.
use Rattle.std.specs.Prelude.{◌≡◌, ◌⊎◌, ◌<◌, ◌≤◌, ◌+◌, ℕ, Bool, true, false, List, All, length, Option, Some, None, Result, Ok, Err, ⊤}
use Rattle.fractions.specs.Rational.{ℚ, zero_ℚ}
use Rattle.affine_forms.specs.Forms.{Assignment, AffineForm, constant_form}
use Rattle.frac128.specs.Narrow.{IsNarrow}
use Rattle.linear_models.specs.Linear.{linear, wide_row}
use Rattle.linear_models.specs.Model.{Model}
use Rattle.cell_refs.specs.declared.cell.Cell.{Cell}
use Rattle.recalculation.specs.Entries.{Book}
use Rattle.workbook.specs.Kinds.{book_of}
use Rattle.workbook.specs.State.{State}
use Rattle.cell_refs.specs.declared.adj.TheConstants.{DECISIONS}
use Rattle.form_extraction.specs.Places.{numbered_in}
use Rattle.solver_names.specs.Sides.{sides_in}
use Rattle.solver_names.specs.Statement.{Statement}
use Rattle.solver_names.specs.Stated.{statement_in}
use Rattle.solver_names.specs.declared.fault.NamesFault.{NamesFault}
use Rattle.solver_names.specs.declared.fault.NamesFault.TheVariants as told
use Rattle.form_needs.specs.FromSheetProblems.{HasForms}
use Rattle.form_needs.specs.FirstRefusal.{AllNumbers, FirstRefusal}
use Rattle.form_needs.specs.Needed.{asked_of}
use Rattle.open_forms.specs.FromSheetLinearModel.{HasFault}
use Rattle.open_forms.specs.FromSheetLinearModel.{IsRight}
use Rattle.named_cells.specs.FromStatementLaws.{AreDistinct, IsWhole}
use Rattle.commands.specs.declared.answer.Answer.{Answer}
use Rattle.commands.specs.declared.answer.Answer.TheVariants as answer
use Rattle.write_back.specs.Writing.{with_numbers, without_room}
use Rattle.workbook.specs.Edits.{after_set}
use Rattle.sheet_finding.specs.declared.finding.Found.{Found}
use Rattle.sheet_finding.specs.declared.finding.Found.TheVariants as found
use Rattle.quick_solve.specs.Quick.{Quick, stated_at, wide_set_at}
use Rattle.sheet_quick.specs.declared.stops.NoGiven.{NoGiven}
use Rattle.sheet_quick.specs.declared.stops.NoGiven.TheVariants as stop
use Rattle.sheet_quick.specs.Opened.{HasOpenForms, SheetQuick}
use Rattle.sheet_quick.specs.Parameters.{other_cell, values_in}
use Rattle.sheet_quick.specs.declared.stops.NoQuick.{NoQuick}
use Rattle.sheet_quick.specs.declared.stops.NoQuick.TheVariants as none

-- cells that stand each once, and none of them among others
abbrev pub StandApart : List Cell → List Cell → Type 0
StandApart decisions cells = AreDistinct cells × All (λ c. numbered_in decisions c ≡ None) cells

-- all cells can be parameters and there is room for them; or the first that can't, or how many they are with those to be decided
abbrev pub ParametersOr : Book → List Cell → List Cell → Result (List Cell) NoQuick → Type 0
ParametersOr book decisions cells (Ok parameters) =
    (parameters ≡ cells) × (other_cell book decisions cells ≡ None) × (length decisions + length cells ≤ DECISIONS)
ParametersOr book decisions cells (Err (none.NotParameter c)) = other_cell book decisions cells ≡ Some c
ParametersOr book decisions cells (Err (none.TooManyParameters n)) =
    (other_cell book decisions cells ≡ None) × (n ≡ length decisions + length cells) × (DECISIONS < n)
ParametersOr book decisions cells (Err none.Memory) = ⊤
ParametersOr book decisions cells (Err _) = ⊥

-- each side of a statement is a number, and these are the forms; or the first refusal, which is right
pub record HaveNumbers (book : State) (s : Statement) (objective : AffineForm) (sides : List (AffineForm × AffineForm)) : Type 0 where
  pub numbers : AllNumbers (asked_of book s)
  pub forms : HasForms (book_of book) (sides_in book s.sheet) s objective sides
  pub none : s.objective ≡ None → objective ≡ constant_form zero_ℚ

abbrev pub FormsOr : State → Statement → Result (AffineForm × List (AffineForm × AffineForm)) NoQuick → Type 0
FormsOr book s (Ok found) = HaveNumbers book s found.0 found.1
FormsOr book s (Err (none.Form r)) = FirstRefusal (asked_of book s) r × IsRight (asked_of book s) r
FormsOr book s (Err none.Memory) = ⊤
FormsOr book s (Err _) = ⊥

-- ---- statements
-- the names of its sheet state this
pub record IsStated (book : State) (s : Statement) : Type 0 where
  pub listed : s.sheet < length book.sheets
  pub stated : statement_in book s.sheet ≡ Ok s
  pub few : length s.decisions ≤ DECISIONS
  pub whole : IsWhole book s

-- a fault of the names as the cause why there is no quick model
abbrev pub cause_of : NamesFault → NoQuick
cause_of told.Memory = none.Memory
cause_of e = none.Names e

abbrev pub NamesOr : State → ℕ → Result Statement NoQuick → Type 0
NamesOr book sheet (Ok s) = IsStated book s
NamesOr book sheet (Err (none.Names fault)) = HasFault book sheet fault
NamesOr book sheet (Err none.Memory) = ⊤
NamesOr book sheet (Err _) = ⊥

-- the quick model of a statement with parameters
pub record IsQuickOf (book : State) (s : Statement) (cells : List Cell) (q : SheetQuick) : Type 0 where
  pub statement : q.statement ≡ s
  pub parameters : q.parameters ≡ cells
  pub values : q.values ≡ values_in (book_of book) cells
  pub forms : HasOpenForms book q

-- ---- values that are given
-- the linear model with these values, or the number of a row that meets one that isn't narrow
abbrev pub ModelOr : Quick → Assignment → Result Model NoGiven → Type 0
ModelOr q y (Ok m) = (m ≡ linear (stated_at q y)) × (wide_set_at q y ≡ None) × (wide_row (stated_at q y) ≡ None)
ModelOr q y (Err (stop.WideSet k)) = wide_set_at q y ≡ Some k
ModelOr q y (Err (stop.WideRow k)) = (wide_set_at q y ≡ None) × (wide_row (stated_at q y) ≡ Some k)
ModelOr q y (Err stop.Memory) = ⊤
ModelOr q y (Err _) = ⊥

-- the quick model with these values of its parameters
abbrev pub with_values : SheetQuick → List ℚ → SheetQuick
with_values q values = record { statement = q.statement; parameters = q.parameters; values = values; model = q.model }

-- an answer that is no refusal of a search
abbrev pub is_accepted : Answer → Bool
is_accepted (answer.Optimal value) = true
is_accepted answer.Infeasible = true
is_accepted answer.Unbounded = true
is_accepted _ = false

-- an optimum has a number for each of so many decisions
abbrev pub CanBeWritten : ℕ → Found → Type 0
CanBeWritten n (found.Optimal numbers value) = length numbers.items ≡ n
CanBeWritten n (found.Told told) = ⊤

-- nothing has changed, or numbers are written into the decision cells
abbrev pub IsPartly : State → List Cell → State → Type 0
IsPartly before decisions after = (after ≡ before) ⊎ ((numbers : List ℚ) × (after ≡ with_numbers before decisions numbers))

-- narrow numbers are written into the decision cells and then the text into the parameter, or a decision cell has no room
abbrev pub Writes : State → List Cell → Cell → List ℕ → List ℚ → Option ℚ → Answer → State → Type 0
Writes before decisions cell text numbers value (answer.Optimal told) after =
    (told ≡ value) × (without_room before decisions numbers ≡ None) × (after ≡ after_set (with_numbers before decisions numbers) cell text) × All IsNarrow numbers
Writes before decisions cell text numbers value (answer.NoRoom c) after = (without_room before decisions numbers ≡ Some c) × (after ≡ before)
Writes before decisions cell text numbers value _ after = ⊥

-- the parameter has the text where nothing is permitted or there is no best value; after a refusal nothing has changed
abbrev pub TellsOther : State → Cell → List ℕ → Answer → Answer → State → Type 0
TellsOther before cell text answer.Infeasible told after = (told ≡ answer.Infeasible) × (after ≡ after_set before cell text)
TellsOther before cell text answer.Unbounded told after = (told ≡ answer.Unbounded) × (after ≡ after_set before cell text)
TellsOther before cell text other told after = (told ≡ other) × (after ≡ before)

abbrev pub Tells : State → List Cell → Cell → List ℕ → Found → Answer → State → Type 0
Tells before decisions cell text (found.Optimal numbers value) told after = Writes before decisions cell text numbers.items value told after
Tells before decisions cell text (found.Told other) told after = TellsOther before cell text other told after
