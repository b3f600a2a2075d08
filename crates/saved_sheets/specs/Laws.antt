-- What is saved of a sheet reads back as its contents, and the names as their records.
use Rattle.std.specs.Prelude.{◌≡◌, ℕ, List}
use Rattle.std.specs.FinMap.{from_entries, get}
use Rattle.csv.specs.Reading.{strip_bom}
use Rattle.cell_refs.specs.declared.cell.Cell.{Cell}
use Rattle.cell_refs.specs.Cells.{cell_cmp}
use Rattle.recalculation.specs.Entries.{Contents}
use Rattle.sheet_csv.specs.Saved.{first_text}
use Rattle.sheet_csv.specs.Sheet.{sheet_records}
use Rattle.workbook.specs.Files.{texts_in_records}
use Rattle.workbook.specs.State.{State}
use Rattle.workbook.specs.Saving.{saved_names}
use Rattle.saved_sheets.specs.Saving.{name_bytes, saved_rows, sheet_bytes}

-- the contents of a sheet are those of a list of records
abbrev pub AreContentsOf : Contents → ℕ → List (List (List ℕ)) → Type 0
AreContentsOf contents sheet records =
    (cell : Cell) → cell.sheet.0 ≡ sheet → get (from_entries {R = cell_cmp} (texts_in_records sheet 0 records)) cell ≡ get contents cell

-- the text in the first cell of the sheet begins with no byte order mark, which a reader would drop
abbrev pub IsUnmarked : State → ℕ → Type 0
IsUnmarked book sheet = strip_bom (first_text (saved_rows book.contents sheet)) ≡ first_text (saved_rows book.contents sheet)

-- the records that are read in the saved bytes have the sheet's contents
abbrev pub ReadsBack : State → ℕ → Type 0
ReadsBack book sheet = IsUnmarked book sheet → AreContentsOf book.contents sheet (sheet_records (sheet_bytes book sheet))

-- the first name's sheet is spelled without a byte order mark before it
abbrev pub NamesAreUnmarked : State → Type 0
NamesAreUnmarked book = strip_bom (first_text (saved_names book.names)) ≡ first_text (saved_names book.names)

-- the records that are read in the saved bytes are those of the names, in their order
abbrev pub NamesReadBack : State → Type 0
NamesReadBack book = NamesAreUnmarked book → sheet_records (name_bytes book) ≡ saved_names book.names
