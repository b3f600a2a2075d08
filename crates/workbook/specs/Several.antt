-- Texts put into several cells.
use Rattle.std.specs.Prelude.{◌≡◌, ◌≢◌, ◌≤◌, ◌||◌, if◌then◌else◌, ℕ, Bool, nat_lt, List, [], ◌∷◌, length, Option, Some, None, Result, Ok, Err}
use Rattle.std.specs.FinMap.{insert}
use Rattle.cell_refs.specs.declared.cell.Cell.{Cell}
use Rattle.cell_refs.specs.declared.limits.TheConstants.{FORMULAS, TEXTS, TEXT_BYTES}
use Rattle.recalculation.specs.Entries.{Contents}
use Rattle.workbook.specs.declared.fault.AllFault.{AllFault}
use Rattle.workbook.specs.declared.fault.AllFault.TheVariants as fault
use Rattle.workbook.specs.State.{State, formula_count, text_count}

-- a text that a cell can have: it isn't empty, and no longer than a field
pub record IsField (text : List ℕ) : Type 0 where
  pub some : text ≢ []
  pub short : length text ≤ TEXT_BYTES

-- contents with texts in cells, put there in their order
abbrev pub with_texts : Contents → List (Cell × List ℕ) → Contents
with_texts contents [] = contents
with_texts contents (e ∷ es) = with_texts (insert contents e.0 e.1) es

-- there are more texts or formulas than a workbook may have
abbrev pub is_too_much : Contents → Bool
is_too_much contents = nat_lt TEXTS (text_count contents) || nat_lt FORMULAS (formula_count contents)

-- the first cell whose text, after those before it, has no room
abbrev pub first_without_room : Contents → List (Cell × List ℕ) → Option Cell
first_without_room contents [] = None
first_without_room contents (e ∷ es) =
    if is_too_much (insert contents e.0 e.1) then Some e.0 else first_without_room (insert contents e.0 e.1) es

-- what putting texts answers: all are put where all have room, or nothing has changed; memory is wanted only where all have room
-- and there is a text
abbrev pub SetsAll : State → List (Cell × List ℕ) → Result (Unit {0}) AllFault → State → Type 0
SetsAll before texts (Ok _) after =
    (first_without_room before.contents texts ≡ None) × (after ≡ record before { contents = with_texts before.contents texts })
SetsAll before texts (Err (fault.NoRoom cell)) after = (first_without_room before.contents texts ≡ Some cell) × (after ≡ before)
SetsAll before texts (Err fault.Memory) after =
    (first_without_room before.contents texts ≡ None) × (texts ≢ []) × (after ≡ before)
