-- The records under which a sheet is saved: one for each row down to the last row with a text, each to its last text; a row without
-- texts is one empty field.
use Rattle.std.specs.Prelude.{ℕ, zero, suc, ◌==◌, ◌&&◌, max, List, [], ◌∷◌, map, filter}
use Rattle.std.specs.FinMap.{entries}
use Rattle.std.specs.List.{range_with_len}
use Rattle.cell_refs.specs.declared.cell.Cell.{Cell}
use Rattle.sheet_csv.specs.Sheet.{Record, saved_text}
use Rattle.recalculation.specs.Entries.{Contents}
use Rattle.workbook.specs.Contents.{content_of}
use Rattle.workbook.specs.Saving.{saved_names}
use Rattle.workbook.specs.State.{State}

-- the greatest of some numbers, 0 where there is none
abbrev pub greatest_of : List ℕ → ℕ
greatest_of [] = 0
greatest_of (n ∷ ns) = max n (greatest_of ns)

abbrev pub TextInCell : Type 0
TextInCell = Cell × List ℕ

-- how many rows reach to the last row of a sheet with a text
abbrev pub rows_used : Contents → ℕ → ℕ
rows_used contents sheet =
    greatest_of (map (λ (e : TextInCell). suc e.0.row) (filter (λ (e : TextInCell). e.0.sheet.0 == sheet) (entries contents)))

-- how many columns reach to the last text of a row
abbrev pub columns_used : Contents → ℕ → ℕ → ℕ
columns_used contents sheet row =
    greatest_of (map (λ (e : TextInCell). suc e.0.col) (filter (λ (e : TextInCell). (e.0.sheet.0 == sheet) && (e.0.row == row)) (entries contents)))

abbrev pub text_at : Contents → ℕ → ℕ → ℕ → List ℕ
text_at contents sheet row column = content_of contents (record { sheet = record { 0 = sheet }; row = row; col = column })

-- the fields of a row; one that is empty where it has no text
abbrev pub fields_to : Contents → ℕ → ℕ → ℕ → Record
fields_to contents sheet row zero = [] ∷ []
fields_to contents sheet row (suc n) = map (text_at contents sheet row) (range_with_len 0 (suc n))

abbrev pub saved_row : Contents → ℕ → ℕ → Record
saved_row contents sheet row = fields_to contents sheet row (columns_used contents sheet row)

-- a sheet's records: each row down to the last one with a text
abbrev pub saved_rows : Contents → ℕ → List Record
saved_rows contents sheet = map (saved_row contents sheet) (range_with_len 0 (rows_used contents sheet))

-- the bytes of a sheet's file, and those of the file of names
abbrev pub sheet_bytes : State → ℕ → List ℕ
sheet_bytes book sheet = saved_text (saved_rows book.contents sheet)

abbrev pub name_bytes : State → List ℕ
name_bytes book = saved_text (saved_names book.names)
