-- The workbook that files spell: each sheet the records of a file, field c of record r the text of cell (r, c); and the names the
-- records of another file.
use Rattle.std.specs.Prelude.{ℕ, suc, ◌==◌, Bool, true, false, not, ◌&&◌, ◌||◌, if◌then◌else◌, List, [], ◌∷◌, ◌++◌, map, Option, Some, None, option_map, is_none}
use Rattle.std.specs.List.{list_all, list_any}
use Rattle.std.specs.FinMap.{from_entries}
use Rattle.sheet_csv.specs.Sheet.{Record, sheet_records}
use Rattle.cell_refs.specs.declared.cell.Cell.{Cell}
use Rattle.cell_refs.specs.Address.{address_in}
use Rattle.cell_refs.specs.Names.{begins_word, goes_on_word, place_in}
use Rattle.formula_grammar.specs.Words.{logical_word}
use Rattle.workbook.specs.State.{Name, State, is_called}

-- a sheet's file: the sheet's name and the bytes
pub record SheetFile : Type 0 where
  pub stem : List ℕ
  pub bytes : List ℕ

-- ---- texts
-- the texts of a record's fields from a column on, with their cells; an empty field is no text
abbrev pub texts_in_record : ℕ → ℕ → ℕ → Record → List (Cell × List ℕ)
texts_in_record sheet row column [] = []
texts_in_record sheet row column ([] ∷ fields) = texts_in_record sheet row (suc column) fields
texts_in_record sheet row column ((b ∷ text) ∷ fields) =
    (record { sheet = record { 0 = sheet }; row = row; col = column }, b ∷ text) ∷ texts_in_record sheet row (suc column) fields

abbrev pub texts_in_records : ℕ → ℕ → List Record → List (Cell × List ℕ)
texts_in_records sheet row [] = []
texts_in_records sheet row (fields ∷ records) = texts_in_record sheet row 0 fields ++ texts_in_records sheet (suc row) records

-- the texts of all sheets, from a sheet on
abbrev pub texts_in_files : ℕ → List SheetFile → List (Cell × List ℕ)
texts_in_files sheet [] = []
texts_in_files sheet (file ∷ files) = texts_in_records sheet 0 (sheet_records file.bytes) ++ texts_in_files (suc sheet) files

-- ---- names
abbrev pub goes_on_name : ℕ → Bool
goes_on_name b = goes_on_word b || (b == 46)

-- a word: a letter or an underscore, and then letters, digits, underscores and points
abbrev pub is_word : List ℕ → Bool
is_word [] = false
is_word (b ∷ rest) = begins_word b && list_all goes_on_name rest

-- a name is a word that is no address and neither TRUE nor FALSE
abbrev pub is_name : List ℕ → Bool
is_name text = is_word text && (is_none (address_in text) && is_none (logical_word text))

-- the sheet of a names record: the whole workbook where it is empty; none where there is no such sheet
abbrev pub sheet_in : List (List ℕ) → List ℕ → Option (Option ℕ)
sheet_in sheets [] = Some None
sheet_in sheets (b ∷ text) = option_map Some (place_in sheets (b ∷ text))

abbrev pub name_on : List ℕ → List ℕ → List ℕ → Option (List ℕ) → Option (Option ℕ) → Option Name
name_on sheet_text name text comment None = None
name_on sheet_text name text comment (Some sheet) =
    if is_name name then Some (record { sheet = sheet; sheet_text = sheet_text; name = name; text = text; comment = comment }) else None

-- the name of a record: a sheet, a name, a text and, where there is a fourth field, a comment; none where it is of another form
abbrev pub name_in : List (List ℕ) → Record → Option Name
name_in sheets (sheet ∷ name ∷ text ∷ []) = name_on sheet name text None (sheet_in sheets sheet)
name_in sheets (sheet ∷ name ∷ text ∷ comment ∷ []) = name_on sheet name text (Some comment) (sheet_in sheets sheet)
name_in sheets _ = None

abbrev pub is_new : List Name → Option Name → Bool
is_new before None = false
is_new before (Some n) = not (list_any (is_called n.sheet n.name) before)

abbrev pub with_name : List Name → Option Name → List Name
with_name before None = before
with_name before (Some n) = before ++ n ∷ []

-- the names of some records, behind others
abbrev pub names_in : List (List ℕ) → List Name → List Record → List Name
names_in sheets before [] = before
names_in sheets before (row ∷ rows) = names_in sheets (with_name before (name_in sheets row)) rows

-- the first of some places, where it is the one at hand or a later one
abbrev pub here_or_later : Bool → Option ℕ → Option ℕ
here_or_later true later = Some 0
here_or_later false later = option_map suc later

-- the first record that isn't a name's, or whose name is there already
abbrev pub bad_name_row : List (List ℕ) → List Name → List Record → Option ℕ
bad_name_row sheets before [] = None
bad_name_row sheets before (row ∷ rows) =
    here_or_later (not (is_new before (name_in sheets row))) (bad_name_row sheets (with_name before (name_in sheets row)) rows)

-- ---- the workbook
abbrev pub stems_of : List SheetFile → List (List ℕ)
stems_of files = map (λ (f : SheetFile). f.stem) files

abbrev pub state_in : List SheetFile → List ℕ → State
state_in files names = record {
  sheets = stems_of files;
  contents = from_entries (texts_in_files 0 files);
  names = names_in (stems_of files) [] (sheet_records names);
}
