-- Edits of a workbook.
use Rattle.std.specs.Prelude.{◌≡◌, ◌≢◌, ℕ, Bool, ◌||◌, if◌then◌else◌, nat_le, nat_lt, List, [], length, Option, Some, None, Result, Ok, Err}
use Rattle.cell_refs.specs.declared.cell.Cell.{Cell}
use Rattle.cell_refs.specs.declared.limits.TheConstants.{COLUMNS, ROWS}
use Rattle.cell_refs.specs.declared.limits.TheConstants.{TEXT_BYTES, FORMULAS, TEXTS}
use Rattle.workbook.specs.declared.fault.EditFault.{EditFault}
use Rattle.workbook.specs.declared.fault.EditFault.TheVariants as fault
use Rattle.workbook.specs.State.{State, with_text, text_count, formula_count}

-- the cell lies past the last row or column of a sheet
abbrev pub is_outside : Cell → Bool
is_outside cell = nat_le ROWS cell.row || nat_le COLUMNS cell.col

-- the workbook with a text in a cell
abbrev pub after_set : State → Cell → List ℕ → State
after_set state cell text = record { sheets = state.sheets; contents = with_text state.contents cell text; names = state.names }

-- why a text isn't put into a cell, if it isn't: the first of these
abbrev pub set_fault : State → Cell → List ℕ → Option EditFault
set_fault state cell text =
    if is_outside cell then Some fault.OutOfSheet
    else if nat_lt TEXT_BYTES (length text) then Some fault.FieldTooLong
    else if nat_lt TEXTS (text_count (with_text state.contents cell text)) then Some fault.TooManyCells
    else if nat_lt FORMULAS (formula_count (with_text state.contents cell text)) then Some fault.TooManyFormulas
    else None

-- what putting a text answers: it is put, or the first cause stands and nothing has changed; memory is wanted for a text alone that
-- could be put and isn't empty
abbrev pub Sets : State → Cell → List ℕ → Result (Unit {0}) EditFault → State → Type 0
Sets before cell text (Ok _) after = (set_fault before cell text ≡ None) × (after ≡ after_set before cell text)
Sets before cell text (Err fault.Memory) after = (set_fault before cell text ≡ None) × (text ≢ []) × (after ≡ before)
Sets before cell text (Err f) after = (set_fault before cell text ≡ Some f) × (after ≡ before)
