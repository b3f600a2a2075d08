-- What the texts of a record name: a cell, a sheet, a number of units. Where they name none, what is answered.
use Rattle.std.specs.Prelude.{ℕ, ◌-◌, Bool, ◌&&◌, nat_le, if◌then◌else◌, List, Option, Some, None, Result, Ok, Err}
use Rattle.cell_refs.specs.declared.cell.Cell.{Cell}
use Rattle.cell_refs.specs.declared.limits.TheConstants.{COLUMNS, ROWS}
use Rattle.cell_refs.specs.Names.{place_in}
use Rattle.cell_refs.specs.Units.{units_in}
use Rattle.workbook.specs.Files.{sheet_in}
use Rattle.commands.specs.declared.answer.Answer.{Answer}
use Rattle.commands.specs.declared.answer.Answer.TheVariants as answer
use Rattle.commands.specs.Addresses.{Address, marked_address}

-- ---- cells
-- its row and its column are those of a sheet
abbrev pub is_inside : Address → Bool
is_inside a = (nat_le 1 a.column && nat_le a.column COLUMNS) && (nat_le 1 a.row && nat_le a.row ROWS)

abbrev pub cell_on : Address → Option ℕ → Result Cell Answer
cell_on a None = Err answer.UnknownSheet
cell_on a (Some sheet) =
    if is_inside a then Ok (record { sheet = record { 0 = sheet }; row = a.row - 1; col = a.column - 1 }) else Err answer.OutOfSheet

abbrev pub cell_at : List (List ℕ) → Option Address → Result Cell Answer
cell_at sheets None = Err answer.BadAddress
cell_at sheets (Some a) = cell_on a (place_in sheets a.name)

-- the cell that a text names, or the first cause why it names none
abbrev pub cell_named : List (List ℕ) → List ℕ → Result Cell Answer
cell_named sheets text = cell_at sheets (marked_address text)

-- ---- sheets
abbrev pub or_unknown : {A : Type 0} → Option A → Result A Answer
or_unknown (Some sheet) = Ok sheet
or_unknown None = Err answer.UnknownSheet

-- the sheet of this name
abbrev pub sheet_named : List (List ℕ) → List ℕ → Result ℕ Answer
sheet_named sheets name = or_unknown (place_in sheets name)

-- the sheet of this name, or the whole workbook where the text is empty
abbrev pub sheet_or_book : List (List ℕ) → List ℕ → Result (Option ℕ) Answer
sheet_or_book sheets name = or_unknown (sheet_in sheets name)

-- ---- numbers of units
abbrev pub or_bad : Option ℕ → Result ℕ Answer
or_bad (Some n) = Ok n
or_bad None = Err answer.BadNumber

-- the number of units that a text names
abbrev pub units_named : List ℕ → Result ℕ Answer
units_named text = or_bad (units_in text)
