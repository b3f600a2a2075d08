-- The steps of opening a workbook.
use Rattle.std.specs.Prelude.{◌≡◌, ◌<◌, ◌≤◌, ◌+◌, ℕ, List, [], length, slice_get, take, All, Some, None, Result, Ok, Err, Vec}
use Rattle.std.specs.Global.{Global}
use Rattle.cell_refs.specs.declared.cell.Cell.{Cell}
use Rattle.sheet_csv.specs.Sheet.{Record, sheet_records}
use Rattle.sheet_csv.specs.Reads.{ReadsSheet}
use Rattle.sheet_csv.specs.declared.fault.SheetFault.{SheetFault}
use Rattle.sheet_csv.specs.declared.fault.SheetFault.TheVariants as sheet_fault
use Rattle.workbook.specs.declared.fault.OpenFault.{OpenFault}
use Rattle.workbook.specs.declared.fault.OpenFault.TheVariants as fault
use Rattle.cell_refs.specs.declared.limits.TheConstants.{FORMULAS, NAMES, TEXTS}
use Rattle.workbook.specs.Files.{SheetFile, bad_name_row, names_in, stems_of}
use Rattle.workbook.specs.Gathered.{IsFieldText, records_of, texts_in_sheets}
use Rattle.workbook.specs.Opening.{IsRead, first_twin, formulas_in, name_limits, sheet_limits}
use Rattle.workbook.specs.Scoped.{IsShort}
use Rattle.workbook.specs.State.{Name, State, formula_count, text_count}

-- the sheets are listed, or the first is told whose name an earlier one has
abbrev pub ListsSheets : List SheetFile → Result (List (List ℕ)) OpenFault → Type 0
ListsSheets files (Ok sheets) = (first_twin [] (stems_of files) ≡ None) × (sheets ≡ stems_of files)
ListsSheets files (Err fault.Memory) = Unit {0}
ListsSheets files (Err (fault.DuplicateSheet sheet)) = first_twin [] (stems_of files) ≡ Some sheet
ListsSheets files (Err _) = ⊥

-- the fault of a sheet's file
abbrev pub sheet_fault_of : ℕ → SheetFault → OpenFault
sheet_fault_of sheet (sheet_fault.NotUtf8 n) = fault.Sheet sheet (sheet_fault.NotUtf8 n)
sheet_fault_of sheet sheet_fault.TooManyRows = fault.Sheet sheet sheet_fault.TooManyRows
sheet_fault_of sheet (sheet_fault.TooManyColumns n) = fault.Sheet sheet (sheet_fault.TooManyColumns n)
sheet_fault_of sheet (sheet_fault.FieldTooLong n) = fault.Sheet sheet (sheet_fault.FieldTooLong n)
sheet_fault_of sheet sheet_fault.Memory = fault.Memory

-- the fault of the file of names
abbrev pub name_fault_of : SheetFault → OpenFault
name_fault_of (sheet_fault.NotUtf8 n) = fault.NameFile (sheet_fault.NotUtf8 n)
name_fault_of sheet_fault.TooManyRows = fault.NameFile sheet_fault.TooManyRows
name_fault_of (sheet_fault.TooManyColumns n) = fault.NameFile (sheet_fault.TooManyColumns n)
name_fault_of (sheet_fault.FieldTooLong n) = fault.NameFile (sheet_fault.FieldTooLong n)
name_fault_of sheet_fault.Memory = fault.Memory

-- a file has the fault, and those before it are read
pub record IsFirstUnread (files : List SheetFile) (sheet : ℕ) (f : SheetFault) : Type 0 where
  pub file : SheetFile
  pub there : slice_get files sheet ≡ Some file
  pub before : All (λ (b : SheetFile). IsRead sheet_limits b.bytes) (take sheet files)
  pub fault : ReadsSheet sheet_limits file.bytes (Err f)

-- the records of all files are read, or the first is told that isn't
abbrev pub ReadsFiles : List SheetFile → Result (Vec (List Record) Global) OpenFault → Type 0
ReadsFiles files (Ok sheets) = All (λ (f : SheetFile). IsRead sheet_limits f.bytes) files × (sheets.items ≡ records_of files)
ReadsFiles files (Err fault.Memory) = Unit {0}
ReadsFiles files (Err (fault.Sheet sheet sheet_fault.Memory)) = ⊥
ReadsFiles files (Err (fault.Sheet sheet f)) = IsFirstUnread files sheet f
ReadsFiles files (Err _) = ⊥

-- the texts are put together, where there are not too many of them and of formulas
abbrev pub GathersTexts : List (List Record) → Result (Vec (Cell × List ℕ) Global) OpenFault → Type 0
GathersTexts sheets (Ok texts) =
    (texts.items ≡ texts_in_sheets 0 sheets) × (length (texts_in_sheets 0 sheets) ≤ TEXTS) × (length (formulas_in (texts_in_sheets 0 sheets)) ≤ FORMULAS)
GathersTexts sheets (Err fault.Memory) = Unit {0}
GathersTexts sheets (Err fault.TooManyCells) = TEXTS < length (texts_in_sheets 0 sheets)
GathersTexts sheets (Err fault.TooManyFormulas) = (length (texts_in_sheets 0 sheets) ≤ TEXTS) × (FORMULAS < length (formulas_in (texts_in_sheets 0 sheets)))
GathersTexts sheets (Err _) = ⊥

-- the names of the records are put together, or the first record is told that is no new name's
abbrev pub PutsNames : List (List ℕ) → List Record → Result (List Name) OpenFault → Type 0
PutsNames sheets rows (Ok names) = (bad_name_row sheets [] rows ≡ None) × (names ≡ names_in sheets [] rows)
PutsNames sheets rows (Err fault.Memory) = Unit {0}
PutsNames sheets rows (Err (fault.BadNameRow row)) = bad_name_row sheets [] rows ≡ Some row
PutsNames sheets rows (Err _) = ⊥

-- the same of a file
abbrev pub ReadsNames : List (List ℕ) → List ℕ → Result (List Name) OpenFault → Type 0
ReadsNames sheets bytes (Ok names) =
    IsRead name_limits bytes × (length (sheet_records bytes) ≤ NAMES) × All IsShort names
    × (bad_name_row sheets [] (sheet_records bytes) ≡ None) × (names ≡ names_in sheets [] (sheet_records bytes))
ReadsNames sheets bytes (Err fault.Memory) = Unit {0}
ReadsNames sheets bytes (Err (fault.NameFile sheet_fault.Memory)) = ⊥
ReadsNames sheets bytes (Err (fault.NameFile sheet_fault.TooManyRows)) = ⊥
ReadsNames sheets bytes (Err (fault.NameFile (sheet_fault.TooManyColumns n))) = ⊥
ReadsNames sheets bytes (Err (fault.NameFile f)) = ReadsSheet name_limits bytes (Err f)
ReadsNames sheets bytes (Err (fault.BadNameRow row)) = IsRead name_limits bytes × (bad_name_row sheets [] (sheet_records bytes) ≡ Some row)
ReadsNames sheets bytes (Err fault.TooManyNames) =
    IsRead name_limits bytes × (bad_name_row sheets [] (sheet_records bytes) ≡ None) × (NAMES < length (sheet_records bytes))
ReadsNames sheets bytes (Err _) = ⊥

-- there is room for all texts, and each can be a cell's
pub record TextsFit (state : State) (texts : List (Cell × List ℕ)) : Type 0 where
  pub room : length texts + text_count state.contents ≤ TEXTS
  pub formulas : length (formulas_in texts) + formula_count state.contents ≤ FORMULAS
  pub fields : All (IsFieldText state.sheets) texts
