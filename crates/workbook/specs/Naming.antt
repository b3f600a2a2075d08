-- Names that get a text, and names that are removed.
use Rattle.std.specs.Prelude.{◌≡◌, ◌≢◌, ◌↔◌, ◌||◌, ℕ, Bool, not, if◌then◌else◌, nat_lt, Contains, List, [], ◌∷◌, ◌++◌, map, filter, length, Option, Some, None, Result, Ok, Err, Vec, slice_get, unwrap_or}
use Rattle.std.specs.Global.{Global}
use Rattle.std.specs.List.{list_any}
use Rattle.std.specs.List.Sorted.{IsStrictlySortedBy}
use Rattle.cell_refs.specs.declared.cell.Cell.{Cell}
use Rattle.cell_refs.specs.declared.limits.TheConstants.{NAMES, TEXT_BYTES}
use Rattle.cell_refs.specs.Cells.{cell_cmp}
use Rattle.recalculation.specs.Entries.{entry}
use Rattle.workbook.specs.declared.fault.EditFault.{EditFault}
use Rattle.workbook.specs.declared.fault.EditFault.TheVariants as fault
use Rattle.workbook.specs.Files.{is_name}
use Rattle.workbook.specs.Kinds.{book_of}
use Rattle.workbook.specs.State.{Name, State, is_called}

-- ---- the names after an edit
-- a sheet's own spelling; nothing for the whole workbook
abbrev pub spelling_of : List (List ℕ) → Option ℕ → List ℕ
spelling_of sheets None = []
spelling_of sheets (Some sheet) = unwrap_or (slice_get sheets sheet) []

abbrev pub is_there : List Name → Option ℕ → List ℕ → Bool
is_there names sheet name = list_any (is_called sheet name) names

-- a name that is there keeps its spelling, its place and its comment, and gets the text
abbrev pub with_new_text : Option ℕ → List ℕ → List ℕ → Name → Name
with_new_text sheet name text n = if is_called sheet name n then record n { text = text } else n

-- a name that is new goes last, without a comment
abbrev pub new_name : List (List ℕ) → Option ℕ → List ℕ → List ℕ → Name
new_name sheets sheet name text =
    record { sheet = sheet; sheet_text = spelling_of sheets sheet; name = name; text = text; comment = None }

abbrev pub names_after : State → Option ℕ → List ℕ → List ℕ → List Name
names_after state sheet name text =
    if is_there state.names sheet name then map (with_new_text sheet name text) state.names
    else state.names ++ new_name state.sheets sheet name text ∷ []

-- the workbook with a text for a name
abbrev pub after_name : State → Option ℕ → List ℕ → List ℕ → State
after_name state sheet name text = record state { names = names_after state sheet name text }

-- the workbook without a name; the others keep their order
abbrev pub after_unname : State → Option ℕ → List ℕ → State
after_unname state sheet name = record state { names = filter (λ (n : Name). not (is_called sheet name n)) state.names }

-- ---- refusals
-- why a name doesn't get a text, if it doesn't: the first of these
abbrev pub name_fault : State → Option ℕ → List ℕ → List ℕ → Option EditFault
name_fault state sheet name text =
    if not (is_name name) then Some fault.BadName
    else if nat_lt TEXT_BYTES (length name) || nat_lt TEXT_BYTES (length text) then Some fault.FieldTooLong
    else if nat_lt NAMES (length (names_after state sheet name text)) then Some fault.TooManyNames
    else None

-- why a text is none of a name that can be removed, if it isn't
abbrev pub unname_fault : List ℕ → Option EditFault
unname_fault name =
    if not (is_name name) then Some fault.BadName
    else if nat_lt TEXT_BYTES (length name) then Some fault.FieldTooLong
    else None

-- ---- what the edit of a name answers
-- exactly the cells that say something else than before, each once, the least first; all others say the same
pub record SayOtherwise (before after : State) (cells : List Cell) : Type 0 where
  pub each : (cell : Cell) → Contains cells cell ↔ (entry (book_of after) cell ≢ entry (book_of before) cell)
  pub sorted : IsStrictlySortedBy cell_cmp cells
  pub others : (cell : Cell) → ¬ (Contains cells cell) → entry (book_of after) cell ≡ entry (book_of before) cell

-- the name has the text, and the cells that say something else are told; or the first cause stands, and nothing has changed; memory
-- is wanted only where no cause stands
abbrev pub Names : State → Option ℕ → List ℕ → List ℕ → Result (Vec Cell Global) EditFault → State → Type 0
Names before sheet name text (Ok cells) after =
    (name_fault before sheet name text ≡ None) × (after ≡ after_name before sheet name text) × SayOtherwise before after cells.items
Names before sheet name text (Err fault.Memory) after = (name_fault before sheet name text ≡ None) × (after ≡ before)
Names before sheet name text (Err f) after = (name_fault before sheet name text ≡ Some f) × (after ≡ before)

-- the name is removed, where it is there, and the cells that say something else are told; on want of memory nothing has changed
abbrev pub Unnames : {E : Type 0} → State → Option ℕ → List ℕ → Result (Vec Cell Global) E → State → Type 0
Unnames before sheet name (Ok cells) after = (after ≡ after_unname before sheet name) × SayOtherwise before after cells.items
Unnames before sheet name (Err _) after = after ≡ before
