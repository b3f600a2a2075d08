-- A workbook with the forms that are kept of it, and what edits and searches do to both.
use Rattle.std.specs.Prelude.{◌≡◌, ◌≢◌, ℕ, List, [], ◌∷◌, OnErr, Option, None, Result, Ok, Err}
use Rattle.cell_refs.specs.declared.cell.Cell.{Cell}
use Rattle.dep_table.specs.References.{References}
use Rattle.workbook.specs.Edits.{Sets}
use Rattle.workbook.specs.Kinds.{book_of}
use Rattle.workbook.specs.Naming.{Names, SayOtherwise, after_name, after_unname, name_fault}
use Rattle.workbook.specs.State.{State}
use Rattle.workbook.specs.declared.fault.EditFault.{EditFault}
use Rattle.commands.specs.declared.answer.Answer.{Answer}
use Rattle.commands.specs.declared.answer.Answer.TheVariants as answer
use Rattle.sheet_solving.specs.FromKeptTables.{AreRight, all_marked}
use Rattle.sheet_solving.specs.FromKeptForms.{SheetKept, all_forms}
use Rattle.kept_book.specs.References.{AreKept, HasFormula}

-- the workbook, and the tables of forms that are kept of its sheets
pub record KeptState : Type 0 where
  pub book : State
  pub tables : List SheetKept

-- references that are kept are those of the workbook, and without them no form is kept; each form that is kept is that of its place
pub record IsKept (r : Option References) (k : KeptState) : Type 0 where
  pub references : AreKept r k.book
  pub none : r ≡ None → k.tables ≡ []
  pub right : AreRight (book_of k.book) (all_forms k.tables)

-- ---- edits
-- the forms that an edit of these cells touches are dropped, by the references behind it, and no others
abbrev pub AreMarked : List Cell → KeptState → KeptState → Type 0
AreMarked cells before after = all_forms after.tables ≡ all_marked (book_of after.book) cells (all_forms before.tables)

-- so it is where there was memory to follow the edit; else nothing is kept any more, and some of the cells has a formula behind it, since nothing else
-- wants memory
abbrev pub IsFollowed : {E : Type 0} → Result (Unit {0}) E → List Cell → KeptState → KeptState → Type 0
IsFollowed (Ok _) cells before after = AreMarked cells before after
IsFollowed (Err _) cells before after = (after.tables ≡ []) × HasFormula cells after.book

-- a text is put, and what is kept follows it; or the first cause stands, and nothing has changed. Memory is wanted for a text alone that
-- isn't empty
abbrev pub SetsKept : {E : Type 0} → KeptState → Cell → List ℕ → Result (Result (Unit {0}) E) EditFault → KeptState → Type 0
SetsKept before cell text (Ok kept) after = Sets before.book cell text (Ok tt) after.book × IsFollowed kept (cell ∷ []) before after × OnErr kept (text ≢ [])
SetsKept before cell text (Err f) after = Sets before.book cell text (Err f) before.book × (after ≡ before)

-- a name has the text, and what is kept follows the cells that say something else; or the first cause stands, and nothing has changed
abbrev pub NamesKept : {E : Type 0} → KeptState → Option ℕ → List ℕ → List ℕ → Result (Result (Unit {0}) E) EditFault → KeptState → Type 0
NamesKept before sheet name text (Ok kept) after =
    (cells : List Cell) × (name_fault before.book sheet name text ≡ None) × (after.book ≡ after_name before.book sheet name text)
    × SayOtherwise before.book after.book cells × IsFollowed kept cells before after
NamesKept before sheet name text (Err f) after = Names before.book sheet name text (Err f) before.book × (after ≡ before)

-- a name is removed, where it is there, and what is kept follows; or memory is wanted, and nothing has changed
abbrev pub UnnamesKept : {E F : Type 0} → KeptState → Option ℕ → List ℕ → Result (Result (Unit {0}) E) F → KeptState → Type 0
UnnamesKept before sheet name (Ok kept) after =
    (cells : List Cell) × (after.book ≡ after_unname before.book sheet name) × SayOtherwise before.book after.book cells × IsFollowed kept cells before after
UnnamesKept before sheet name (Err _) after = after ≡ before

-- ---- searches
-- the cells that are edited by an answer: those to be decided, where an optimum is written into them
abbrev pub written_cells : Answer → List Cell → List Cell
written_cells (answer.Optimal value) cells = cells
written_cells _ cells = []
