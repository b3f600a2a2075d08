-- What inner contracts cite: units that are spent of a search apart from the session, and forms that follow what is done.
use Rattle.std.specs.Prelude.{◌≡◌, ℕ, true, List, [], ◌∷◌, Contains, Result, Ok, Err, Option, Some, None, is_some, ⊤}
use Rattle.cell_refs.specs.declared.cell.Cell.{Cell}
use Rattle.linear_models.specs.Model.{Model}
use Rattle.workbook.specs.Kinds.{book_of}
use Rattle.workbook.specs.State.{State}
use Rattle.solver_names.specs.Stated.{statement_in}
use Rattle.solver_names.specs.Statement.{Statement}
use Rattle.kept_book.specs.FromSheetSolving.{Opened, Task}
use Rattle.kept_book.specs.FromSheetSolving.{Slices}
use Rattle.kept_book.specs.FromTouchedPlaces.{DifferAt}
use Rattle.kept_tables.specs.Settled.{IsFull, SheetForms, all_marked, decisions_of, with_table}
use Rattle.sheet_linear_model.specs.FromKeptForms.{all_forms}
use Rattle.sheet_linear_model.specs.Answers.{CountsFew as FewSteps, parts_in}
use Rattle.sheet_linear_model.specs.declared.prepared.NoModel.{NoModel}
use Rattle.sheet_linear_model.specs.declared.prepared.NoModel.TheVariants as none
use Rattle.commands.specs.Commands.{Spoken}
use Rattle.commands.specs.declared.answer.Answer.{Answer}
use Rattle.commands.specs.declared.answer.Answer.TheVariants as answer
use Rattle.session.specs.Solves.{with_written}
use Rattle.session.specs.Kept.{Edits, is_searched, sheet_needed, without_fault}
use Rattle.session.specs.States.{Session, SessionState, with_book}

-- a search of the model, which stands apart, is gone on with: all units that are asked for are spent and it stands where they have led, or
-- it is at an end
abbrev pub Spends : Task → SessionState → Statement → Model → Answer → Opened → SessionState → Type 0
Spends task before s m a search after =
    (book : State) × Slices task before.book s m a search book × (after ≡ with_written a s.decisions (with_book before book))

-- what stays open of it
abbrev pub search_after : Answer → Opened → Option Opened
search_after (answer.More n) search = Some search
search_after a search = None

-- ---- forms
-- the workbook differs in these cells alone, and of these tables the forms are dropped that their edits touch, by the references behind
-- them
pub record HasFollowed (cells : List Cell) (tables : List SheetForms) (before after : Session) : Type 0 where
  pub differ : DifferAt (Contains cells) (book_of before.state.book) (book_of after.state.book)
  pub marked : all_forms after.tables ≡ all_marked (book_of after.state.book) cells tables

-- the full table of a sheet that is needed was put before; its decision cells alone are edited, and its names give what they gave
pub record HasPut (sheet : ℕ) (cells : List Cell) (before after : Session) : Type 0 where
  pub table : SheetForms
  pub own : table.sheet ≡ sheet
  pub given : parts_in before.state.book sheet ≡ Some table.parts
  pub still : parts_in after.state.book sheet ≡ Some table.parts
  pub full : IsFull (book_of before.state.book) table
  pub decisions : (c : Cell) → Contains cells c → is_some (decisions_of table.parts c) ≡ true
  pub followed : HasFollowed cells (with_table (is_searched before.state) (all_forms before.tables) table) before after

-- what is kept follows a command
abbrev pub Follows : Option ℕ → List Cell → Session → Session → Type 0
Follows None cells before after = HasFollowed cells (all_forms before.tables) before after
Follows (Some sheet) cells before after = HasPut sheet cells before after

abbrev pub FollowsCommand : Session → Spoken → Answer → Session → Type 0
FollowsCommand before command a after = (cells : List Cell) × Edits before.state command a after.state cells × Follows (sheet_needed before.state command) cells before after

-- the model of a sheet is made, and nothing is edited
abbrev pub FollowsModel : Session → ℕ → Session → Type 0
FollowsModel before sheet after = Follows (without_fault before.state.book sheet) [] before after

-- the cells that are edited where an optimum is written
abbrev pub AreWritten : SessionState → ℕ → Answer → List Cell → Type 0
AreWritten s sheet (answer.Optimal value) cells = (stated : Statement) × (statement_in s.book sheet ≡ Ok stated) × (cells ≡ stated.decisions)
AreWritten s sheet a cells = cells ≡ []

-- the model of a sheet is made, and an optimum may be written
abbrev pub FollowsSheet : Session → ℕ → Answer → Session → Type 0
FollowsSheet before sheet a after = (cells : List Cell) × AreWritten before.state sheet a cells × Follows (without_fault before.state.book sheet) cells before after

-- a text is put into a cell, or it is refused
abbrev pub FollowsEdit : Cell → Answer → Session → Session → Type 0
FollowsEdit cell answer.Done before after = HasFollowed (cell ∷ []) (all_forms before.tables) before after
FollowsEdit cell a before after = HasFollowed [] (all_forms before.tables) before after

-- of all tables the forms are dropped that edits of these cells touch, by the references behind them
abbrev pub Drops : List Cell → Session → Session → Type 0
Drops cells before after = all_forms after.tables ≡ all_marked (book_of after.state.book) cells (all_forms before.tables)

-- so it is unless memory is wanted
abbrev pub UnlessMemory : {A : Type 0} → Result A NoModel → Type 0 → Type 0
UnlessMemory (Err none.Memory) P = ⊤
UnlessMemory r P = P

-- the steps of the model of a sheet
abbrev pub FewOfSheet : Session → ℕ → ℕ → Type 0
FewOfSheet before sheet steps = FewSteps before.state.book before.tables sheet (parts_in before.state.book sheet) steps
