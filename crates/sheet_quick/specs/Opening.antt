-- What is answered where a quick model of a sheet is opened.
use Rattle.std.specs.Prelude.{◌≡◌, ◌⊎◌, ◌<◌, ◌≤◌, ◌+◌, ◌++◌, ℕ, List, length, Some, None, Result, Ok, Err, ⊤}
use Rattle.cell_refs.specs.declared.cell.Cell.{Cell}
use Rattle.workbook.specs.Kinds.{book_of}
use Rattle.cell_refs.specs.Listed.{IsListed}
use Rattle.workbook.specs.State.{State}
use Rattle.cell_refs.specs.declared.adj.TheConstants.{DECISIONS}
use Rattle.commands.specs.Refusals.{FaultIsListed, RefusalIsListed}
use Rattle.solver_names.specs.Sides.{sides_in}
use Rattle.solver_names.specs.Statement.{Statement}
use Rattle.solver_names.specs.Stated.{statement_in}
use Rattle.open_forms.specs.FromExtractIncr.{no_forms}
use Rattle.open_forms.specs.FromExtractIncr.{count_to_make}
use Rattle.form_needs.specs.FirstRefusal.{AllNumbers, FirstRefusal}
use Rattle.form_needs.specs.Needed.{asked_of}
use Rattle.open_forms.specs.FromSheetLinearModel.{HasFault}
use Rattle.open_forms.specs.FromSheetLinearModel.{IsRight}
use Rattle.parameter_problems.specs.Opened.{opened}
use Rattle.sheet_quick.specs.Opened.{HasOpenForms, SheetQuick, quick_of}
use Rattle.sheet_quick.specs.Parameters.{cells_named, other_cell, values_in}
use Rattle.sheet_quick.specs.declared.quick.SheetQuick.{SheetQuick as Declared}
use Rattle.sheet_quick.specs.declared.stops.NoQuick.{NoQuick}
use Rattle.sheet_quick.specs.declared.stops.NoQuick.TheVariants as none

-- the text names these cells, and the names of the sheet state this
pub record AreNamed (book : State) (sheet : ℕ) (text : List ℕ) (s : Statement) (these : List Cell) : Type 0 where
  pub cells : cells_named book sheet text ≡ Some these
  pub stated : statement_in book sheet ≡ Ok s

-- they can all be parameters, and with the decision cells they aren't too many
pub record AreParameters (book : State) (sheet : ℕ) (text : List ℕ) (s : Statement) (cells : List Cell) : Type 0 where
  pub named : AreNamed book sheet text s cells
  pub all : other_cell (book_of book) s.decisions cells ≡ None
  pub few : length s.decisions + length cells ≤ DECISIONS

-- over decision cells and parameters nothing is refused, and the quick model has these forms and the numbers of the parameters
pub record IsOpened (book : State) (sheet : ℕ) (text : List ℕ) (q : SheetQuick) : Type 0 where
  pub parameters : AreParameters book sheet text q.statement q.parameters
  pub numbers : AllNumbers (asked_of book (opened q.statement q.parameters))
  pub forms : HasOpenForms book q
  pub values : q.values ≡ values_in (book_of book) q.parameters

-- the first cause why there is no quick model: the text, then the names, then a cell, then their number, and then a form
abbrev pub HasNoQuick : State → ℕ → List ℕ → NoQuick → Type 0
HasNoQuick book sheet text none.BadReference = cells_named book sheet text ≡ None
HasNoQuick book sheet text (none.Names fault) = (cells : List Cell) × (cells_named book sheet text ≡ Some cells) × HasFault book sheet fault
HasNoQuick book sheet text (none.NotParameter c) =
    (s : Statement) × (cells : List Cell) × AreNamed book sheet text s cells × (other_cell (book_of book) s.decisions cells ≡ Some c)
HasNoQuick book sheet text (none.TooManyParameters n) =
    (s : Statement) × (cells : List Cell) × AreNamed book sheet text s cells × (other_cell (book_of book) s.decisions cells ≡ None)
    × (n ≡ length s.decisions + length cells) × (DECISIONS < n)
HasNoQuick book sheet text (none.Form r) =
    (s : Statement) × (cells : List Cell) × AreParameters book sheet text s cells × FirstRefusal (asked_of book (opened s cells)) r
    × IsRight (asked_of book (opened s cells)) r
HasNoQuick book sheet text none.Memory = ⊤

abbrev pub Opens : State → ℕ → List ℕ → Result Declared NoQuick → Type 0
Opens book sheet text (Ok q) = IsOpened book sheet text (quick_of q)
Opens book sheet text (Err e) = HasNoQuick book sheet text e

-- cells in a cause lie on the sheets
abbrev pub CauseIsListed : List (List ℕ) → NoQuick → Type 0
CauseIsListed sheets (none.Names fault) = FaultIsListed sheets fault
CauseIsListed sheets (none.NotParameter c) = IsListed sheets c
CauseIsListed sheets (none.Form r) = RefusalIsListed sheets r
CauseIsListed sheets e = ⊤

-- no step is counted, or for some parameters at most one for each place that can have a form over decision cells and them
abbrev pub MakesFew : State → ℕ → List ℕ → ℕ → ℕ → Type 0
MakesFew book sheet text before after =
    (after ≡ before) ⊎ ((s : Statement) × (cells : List Cell) × AreParameters book sheet text s cells
    × (after ≤ before + count_to_make (book_of book) (record { decisions = s.decisions ++ cells; sides = sides_in book sheet; table = no_forms })))
