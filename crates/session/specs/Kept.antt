-- The forms that a session keeps across commands: which stay settled, and how few are made.
use Rattle.std.specs.Prelude.{◌≡◌, ℕ, Bool, List, [], ◌∷◌, Option, Some, None, option_map, is_some, Result, Ok, Err}
use Rattle.std.specs.Option.{option_and_then}
use Rattle.cell_refs.specs.Names.{place_in}
use Rattle.cell_refs.specs.declared.cell.Cell.{Cell}
use Rattle.workbook.specs.Kinds.{book_of}
use Rattle.workbook.specs.Naming.{SayOtherwise}
use Rattle.workbook.specs.State.{State}
use Rattle.solver_names.specs.Stated.{statement_in}
use Rattle.solver_names.specs.Statement.{Statement}
use Rattle.commands.specs.declared.answer.Answer.{Answer}
use Rattle.commands.specs.declared.answer.Answer.TheVariants as answer
use Rattle.commands.specs.Commands.{Spoken, Set, Clear, Name, Unname, Model, Solve, Prices, Begin, Slice, Cert}
use Rattle.commands.specs.Locating.{cell_named, sheet_named}
use Rattle.kept_tables.specs.Commands as kept
use Rattle.sheet_linear_model.specs.FromKeptForms.{all_forms}
use Rattle.sheet_linear_model.specs.Answers.{parts_in}
use Rattle.session.specs.Cuts.{Cut, cut_of, sheet_to_begin}
use Rattle.session.specs.Edits.{and_then}
use Rattle.session.specs.States.{Session, SessionState, open_search}

-- ---- what is kept
-- whether a sheet has an open search
abbrev pub is_searched : SessionState → ℕ → Bool
is_searched s sheet = is_some (open_search s sheet)

-- the workbook, what the names of each sheet give, which sheets have an open search, and the forms that are kept
abbrev pub kept_of : Session → kept.Kept
kept_of s = record { book = book_of s.state.book; gives = parts_in s.state.book; searching = is_searched s.state; tables = all_forms s.tables }

-- ---- what a command needs and edits
abbrev pub sheet_or : Result ℕ Answer → Option ℕ
sheet_or (Ok sheet) = Some sheet
sheet_or (Err a) = None

-- the sheet whose model the command asks for, unless it is refused before
abbrev pub sheet_modelled : SessionState → Spoken → Option ℕ
sheet_modelled s (Model name) = sheet_or (sheet_named s.book.sheets name)
sheet_modelled s (Solve name) = sheet_or (sheet_named s.book.sheets name)
sheet_modelled s (Prices name) = sheet_or (sheet_named s.book.sheets name)
sheet_modelled s (Begin name) = sheet_or (sheet_to_begin s name)
sheet_modelled s (Slice name units) = sheet_or (and_then (cut_of s name units) (λ (c : Cut). Ok c.sheet))
sheet_modelled s (Cert name) = sheet_or (sheet_named s.book.sheets name)
sheet_modelled s command = None

-- a sheet, if its names have no fault
abbrev pub without_fault : State → ℕ → Option ℕ
without_fault book sheet = option_map (λ parts. sheet) (parts_in book sheet)

-- the sheet whose forms the command needs
abbrev pub sheet_needed : SessionState → Spoken → Option ℕ
sheet_needed s command = option_and_then (without_fault s.book) (sheet_modelled s command)

-- the decision cells of the sheet of that name
abbrev pub AreDecisions : SessionState → List ℕ → List Cell → Type 0
AreDecisions s name cells = (sheet : ℕ) × (stated : Statement) × (place_in s.book.sheets name ≡ Some sheet) × (statement_in s.book sheet ≡ Ok stated) × (cells ≡ stated.decisions)

-- the cells that are edited: the one to which a text is given or from which it is taken, those that say something else once a name is
-- edited, or the decision cells into which an optimum is written
abbrev pub Edits : SessionState → Spoken → Answer → SessionState → List Cell → Type 0
Edits before (Set address text) answer.Done after cells = (c : Cell) × (cell_named before.book.sheets address ≡ Ok c) × (cells ≡ c ∷ [])
Edits before (Clear address) answer.Done after cells = (c : Cell) × (cell_named before.book.sheets address ≡ Ok c) × (cells ≡ c ∷ [])
Edits before (Name sheet name text) answer.Done after cells = SayOtherwise before.book after.book cells
Edits before (Unname sheet name) answer.Done after cells = SayOtherwise before.book after.book cells
Edits before (Solve name) (answer.Optimal value) after cells = AreDecisions before name cells
Edits before (Slice name units) (answer.Optimal value) after cells = AreDecisions before name cells
Edits before command a after cells = cells ≡ []

-- ---- what stands after an answer
-- forms stay settled but for those that edits touch, and all of the sheet that the command needs are settled
abbrev pub KeepsForms : Session → Spoken → Answer → Session → Type 0
KeepsForms before command a after =
    (cells : List Cell) × Edits before.state command a after.state cells
    × kept.Keeps (kept_of before) (record { edited = cells; needed = sheet_needed before.state command }) (kept_of after)

-- at most one step for each place of that sheet that wasn't settled, and none where no sheet is needed
abbrev pub CountsFew : Session → Spoken → ℕ → Type 0
CountsFew before command steps = kept.CountsFew (kept_of before) (sheet_needed before.state command) steps
