-- The first fault of files that are opened together: two sheets of one name, a sheet's file, too many texts, too many formulas, the
-- file of names, a record in it, too many names.
use Rattle.std.specs.Prelude.{ℕ, suc, Bool, not, if◌then◌else◌, nat_lt, List, [], ◌∷◌, length, Option, Some, None, option_map}
use Rattle.std.specs.Str.{is_utf8}
use Rattle.std.specs.Str.Lossy.{utf8_valid_len}
use Rattle.sheet_csv.specs.Sheet.{first_long, first_wide, sheet_records}
use Rattle.sheet_csv.specs.declared.fault.CsvLimits.{CsvLimits}
use Rattle.sheet_csv.specs.declared.fault.SheetFault.{SheetFault}
use Rattle.sheet_csv.specs.declared.fault.SheetFault.TheVariants as sheet_fault
use Rattle.cell_refs.specs.declared.limits.TheConstants.{FORMULAS, NAMES, TEXT_BYTES, TEXTS}
use Rattle.workbook.specs.declared.fault.OpenFault.{OpenFault}
use Rattle.workbook.specs.declared.fault.OpenFault.TheVariants as fault
use Rattle.workbook.specs.Files.{SheetFile, bad_name_row, stems_of, texts_in_files}
use Rattle.workbook.specs.Opening.{first_twin, formulas_in, sheet_limits}

-- the first of several things that is there
abbrev pub first_of : {A : Type 0} → List (Option A) → Option A
first_of [] = None
first_of (None ∷ others) = first_of others
first_of (Some x ∷ others) = Some x

-- a thing, where the test holds
abbrev pub where_so : {A : Type 0} → Bool → A → Option A
where_so b x = if b then Some x else None

-- the first fault of a file
abbrev pub file_fault : CsvLimits → List ℕ → Option SheetFault
file_fault limits bytes = first_of (
    where_so (not (is_utf8 bytes)) (sheet_fault.NotUtf8 (utf8_valid_len bytes))
    ∷ where_so (nat_lt limits.rows (length (sheet_records bytes))) sheet_fault.TooManyRows
    ∷ option_map sheet_fault.TooManyColumns (first_wide limits.columns (sheet_records bytes))
    ∷ option_map sheet_fault.FieldTooLong (first_long limits.field (sheet_records bytes))
    ∷ [])

-- the first fault of the file of names, which may have any number of records and fields
abbrev pub names_fault : List ℕ → Option SheetFault
names_fault bytes = first_of (
    where_so (not (is_utf8 bytes)) (sheet_fault.NotUtf8 (utf8_valid_len bytes))
    ∷ option_map sheet_fault.FieldTooLong (first_long TEXT_BYTES (sheet_records bytes))
    ∷ [])

-- the faults of the sheets' files, from the sheet of a number on
abbrev pub sheet_faults : ℕ → List SheetFile → List (Option OpenFault)
sheet_faults sheet [] = []
sheet_faults sheet (file ∷ files) = option_map (fault.Sheet sheet) (file_fault sheet_limits file.bytes) ∷ sheet_faults (suc sheet) files

-- the first fault of all
abbrev pub opening_fault : List SheetFile → List ℕ → Option OpenFault
opening_fault files names = first_of (
    option_map fault.DuplicateSheet (first_twin [] (stems_of files))
    ∷ first_of (sheet_faults 0 files)
    ∷ where_so (nat_lt TEXTS (length (texts_in_files 0 files))) fault.TooManyCells
    ∷ where_so (nat_lt FORMULAS (length (formulas_in (texts_in_files 0 files)))) fault.TooManyFormulas
    ∷ option_map fault.NameFile (names_fault names)
    ∷ option_map fault.BadNameRow (bad_name_row (stems_of files) [] (sheet_records names))
    ∷ where_so (nat_lt NAMES (length (sheet_records names))) fault.TooManyNames
    ∷ [])
