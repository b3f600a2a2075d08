-- A session: a workbook, and what is kept beside it while commands are applied.
use Rattle.std.specs.Prelude.{◌≡◌, ◌≤◌, ℕ, Bool, true, false, List, [], ◌∷◌, filter, length, replicate, slice_index_or, slice_set, Option, Some, None, is_some, refl}
use Rattle.std.specs.Coded.{Coded, code_by, coded×, coded_list, coded_ℕ, coded_bool}
use Rattle.cell_refs.specs.declared.cell.Cell.{Cell}
use Rattle.workbook.specs.State.{State}
use Rattle.workbook.specs.Codes.{state_code}
use Rattle.cell_refs.specs.declared.units.TheConstants.{MOST_UNITS}
use Rattle.sheet_linear_model.specs.FromKeptForms.{SheetKept}
use Rattle.kept_book.specs.FromSheetSolving.{Opened}

-- which files differ from what was read or saved: for each sheet whether it does, and whether the names do
pub record Changes : Type 0 where
  pub sheets : List Bool
  pub names : Bool

-- the workbook, the files that have changed, how many units a search or a run for prices may spend, and for each sheet its open search,
-- if it has one
pub record SessionState : Type 0 where
  pub book : State
  pub changed : Changes
  pub budget : ℕ
  pub searches : List (Option Opened)

-- a session as a contract sees it: its state, and the forms that are kept of its sheets, which change no answer
pub record Session : Type 0 where
  pub state : SessionState
  pub tables : List SheetKept

-- ---- changes of one part; all other parts stay as they were
-- no file has changed
abbrev pub none_changed : ℕ → Changes
none_changed sheets = record { sheets = replicate sheets false; names = false }

-- a session over a workbook that was opened, without searches
abbrev pub opened : State → ℕ → SessionState
opened book budget = record { book = book; changed = none_changed (length book.sheets); budget = budget; searches = replicate (length book.sheets) None }

abbrev pub with_book : SessionState → State → SessionState
with_book s book = record s { book = book }

-- with the contents, the names and the files that count as changed of another one
abbrev pub with_contents : SessionState → SessionState → SessionState
with_contents s other = record s { book = other.book; changed = other.changed }

-- the file of a sheet counts as changed
abbrev pub mark_sheet : Changes → ℕ → Changes
mark_sheet changed sheet = record changed { sheets = slice_set changed.sheets sheet true }

-- the files of the sheets of these cells do
abbrev pub mark_cells : Changes → List Cell → Changes
mark_cells changed [] = changed
mark_cells changed (c ∷ cells) = mark_cells (mark_sheet changed c.sheet.0) cells

abbrev pub with_changed : SessionState → List Cell → SessionState
with_changed s cells = record s { changed = mark_cells s.changed cells }

-- the file of names does
abbrev pub with_names_changed : SessionState → SessionState
with_names_changed s = record s { changed = record (s.changed) { names = true } }

-- no file does any more
abbrev pub with_none_changed : SessionState → SessionState
with_none_changed s = record s { changed = none_changed (length s.book.sheets) }

abbrev pub with_budget : SessionState → ℕ → SessionState
with_budget s budget = record s { budget = budget }

-- a sheet has this search, or none
abbrev pub with_search : SessionState → ℕ → Opened → SessionState
with_search s sheet search = record s { searches = slice_set s.searches sheet (Some search) }

abbrev pub without_search : SessionState → ℕ → SessionState
without_search s sheet = record s { searches = slice_set s.searches sheet None }

-- ---- searches
-- the open search of a sheet, if it has one
abbrev pub open_search : SessionState → ℕ → Option Opened
open_search s sheet = slice_index_or s.searches sheet None

-- how many other sheets have one
abbrev pub other_searches : SessionState → ℕ → ℕ
other_searches s sheet = length (filter is_some (slice_set s.searches sheet None))

-- ---- what always holds
-- each sheet counts as changed or doesn't, and has an open search or none; and the budget is none that is too great
pub record IsSession (s : SessionState) : Type 0 where
  pub sheets : length s.changed.sheets ≡ length s.book.sheets
  pub searches : length s.searches ≡ length s.book.sheets
  pub budget : s.budget ≤ MOST_UNITS

-- ---- codes
abbrev pub changes_code : Coded Changes
changes_code = code_by (List Bool × Bool) (coded× (coded_list coded_bool) coded_bool) (λ c. (c.sheets, c.names)) (λ p. record { sheets = p.0; names = p.1 }) (λ _. refl)

-- by a code of the searches
abbrev pub state_of_session_code : Coded (List (Option Opened)) → Coded SessionState
state_of_session_code searches_code =
    code_by (State × (Changes × (ℕ × List (Option Opened)))) (coded× state_code (coded× changes_code (coded× coded_ℕ searches_code)))
    (λ s. (s.book, (s.changed, (s.budget, s.searches)))) (λ p. record { book = p.0; changed = p.1.0; budget = p.1.1.0; searches = p.1.1.1 }) (λ _. refl)

abbrev pub session_code : Coded (List (Option Opened)) → Coded (List SheetKept) → Coded Session
session_code searches_code tables_code =
    code_by (SessionState × List SheetKept) (coded× (state_of_session_code searches_code) tables_code)
    (λ s. (s.state, s.tables)) (λ p. record { state = p.0; tables = p.1 }) (λ _. refl)
