-- Numbers written into the cells to be decided.
use Rattle.std.specs.Prelude.{◌≡◌, ◌≢◌, ℕ, ◌==◌, if◌then◌else◌, List, [], ◌∷◌, map, zip, slice_get, Option, Some, None, Result, Ok, Err}
use Rattle.std.specs.List.{list_any}
use Rattle.fractions.specs.Rational.{ℚ}
use Rattle.cell_refs.specs.declared.cell.Cell.{Cell}
use Rattle.formula_ast.specs.Tree.{Tree}
use Rattle.frac128.specs.Printed.{printed}
use Rattle.recalculation.specs.Entries.{Book, no_overriding}
use Rattle.recalculation.specs.Recalculation.{val}
use Rattle.affine_forms.specs.Assigned.{assigned}
use Rattle.form_extraction.specs.Looked.{side_value}
use Rattle.form_extraction.specs.Places.{numbered_in, overriding}
use Rattle.workbook.specs.declared.fault.AllFault.{AllFault}
use Rattle.workbook.specs.declared.fault.AllFault.TheVariants as fault
use Rattle.workbook.specs.Several.{first_without_room, with_texts}
use Rattle.workbook.specs.State.{State}

-- the text of a number: as it is printed, with an equals sign before it where that is numerator, slash and denominator
abbrev pub number_text : ℚ → List ℕ
number_text x = if list_any (λ b. b == 47) (printed x) then 61 ∷ printed x else printed x

-- the cells with the texts of their numbers
abbrev pub texts_of : List Cell → List ℚ → List (Cell × List ℕ)
texts_of cells numbers = zip cells (map number_text numbers)

-- the workbook with the numbers written into the cells; no other cell changes
abbrev pub with_numbers : State → List Cell → List ℚ → State
with_numbers book cells numbers = record book { contents = with_texts book.contents (texts_of cells numbers) }

-- the first cell for whose number there is no room, after those before it
abbrev pub without_room : State → List Cell → List ℚ → Option Cell
without_room book cells numbers = first_without_room book.contents (texts_of cells numbers)

-- all numbers are written where all have room, or nothing has changed; where there are none, no memory is wanted
abbrev pub Puts : State → List Cell → List ℚ → Result (Unit {0}) AllFault → State → Type 0
Puts before cells numbers (Ok _) after = (without_room before cells numbers ≡ None) × (after ≡ with_numbers before cells numbers)
Puts before cells numbers (Err (fault.NoRoom cell)) after = (without_room before cells numbers ≡ Some cell) × (after ≡ before)
Puts before cells numbers (Err fault.Memory) after = (numbers ≢ []) × (after ≡ before)

-- every cell is then what it was with the numbers in the place of these cells
abbrev pub KeepsValues : Book → List Cell → List ℚ → Book → Type 0
KeepsValues before cells numbers after =
    (c : Cell) → val after no_overriding c ≡ val before (overriding (numbered_in cells) (assigned numbers)) c

-- so is every formula that stands in no cell, as a right side that is an expression
abbrev pub KeepsSides : Book → List Cell → List ℚ → Book → Type 0
KeepsSides before cells numbers after =
    (t : Tree) → side_value after no_overriding t ≡ side_value before (overriding (numbered_in cells) (assigned numbers)) t

-- no cell stands twice
abbrev pub AreDistinct : List Cell → Type 0
AreDistinct cells = (i j : ℕ) (c : Cell) → slice_get cells i ≡ Some c → slice_get cells j ≡ Some c → i ≡ j
