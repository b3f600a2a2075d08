-- How a workbook is opened: each fault exactly where it stands, the first of them in this order: two sheets of one name, a sheet's
-- file, too many texts, too many formulas, the file of names, a record in it, too many names.
use Rattle.std.specs.Prelude.{◌≡◌, ℕ, ◌<◌, ◌≤◌, List, [], ◌∷◌, ◌++◌, length, filter, slice_get, take, All, Option, Some, None, Result, Ok, Err}
use Rattle.std.specs.List.{list_any}
use Rattle.cell_refs.specs.declared.cell.Cell.{Cell}
use Rattle.cell_refs.specs.declared.limits.TheConstants.{COLUMNS, ROWS}
use Rattle.cell_refs.specs.Names.{same_letters}
use Rattle.sheet_csv.specs.Sheet.{sheet_records}
use Rattle.sheet_csv.specs.Reads.{ReadsSheet}
use Rattle.sheet_csv.specs.declared.fault.CsvLimits.{CsvLimits}
use Rattle.sheet_csv.specs.declared.fault.SheetFault.{SheetFault}
use Rattle.sheet_csv.specs.declared.fault.SheetFault.TheVariants as sheet_fault
use Rattle.cell_refs.specs.declared.limits.TheConstants.{TEXT_BYTES, FORMULAS, NAMES, TEXTS}
use Rattle.workbook.specs.declared.fault.OpenFault.{OpenFault}
use Rattle.workbook.specs.declared.fault.OpenFault.TheVariants as fault
use Rattle.workbook.specs.State.{State, is_formula_text}
use Rattle.workbook.specs.Files.{SheetFile, bad_name_row, here_or_later, state_in, stems_of, texts_in_files}

-- what is allowed of a sheet's file, and of the file of names, which may have any number of records and fields
abbrev pub sheet_limits : CsvLimits
sheet_limits = record { rows = ROWS; columns = COLUMNS; field = TEXT_BYTES }

abbrev pub name_limits : CsvLimits
name_limits = record { rows = 4294967295; columns = 4294967295; field = TEXT_BYTES }

-- a file is read to its end
abbrev pub IsRead : CsvLimits → List ℕ → Type 0
IsRead limits bytes = ReadsSheet limits bytes (Ok (sheet_records bytes))

-- the first sheet whose name an earlier one has, in any case of ASCII letters
abbrev pub first_twin : List (List ℕ) → List (List ℕ) → Option ℕ
first_twin before [] = None
first_twin before (stem ∷ stems) = here_or_later (list_any (λ b. same_letters b stem) before) (first_twin (before ++ stem ∷ []) stems)

-- no two sheets have one name, and each file is read
pub record SheetsAreRead (files : List SheetFile) : Type 0 where
  pub twins : first_twin [] (stems_of files) ≡ None
  pub read : All (λ (f : SheetFile). IsRead sheet_limits f.bytes) files

abbrev pub formulas_in : List (Cell × List ℕ) → List (Cell × List ℕ)
formulas_in texts = filter (λ (e : Cell × List ℕ). is_formula_text e.1) texts

-- and there are not too many texts and formulas
pub record ContentsFit (files : List SheetFile) : Type 0 where
  pub sheets : SheetsAreRead files
  pub texts : length (texts_in_files 0 files) ≤ TEXTS
  pub formulas : length (formulas_in (texts_in_files 0 files)) ≤ FORMULAS

-- and each record of the file of names is a new name's
pub record NamesAreRead (files : List SheetFile) (names : List ℕ) : Type 0 where
  pub contents : ContentsFit files
  pub read : IsRead name_limits names
  pub good : bad_name_row (stems_of files) [] (sheet_records names) ≡ None

-- the file of a sheet has the fault, and those before it are read
pub record IsFirstFault (files : List SheetFile) (sheet : ℕ) (f : SheetFault) : Type 0 where
  pub twins : first_twin [] (stems_of files) ≡ None
  pub file : SheetFile
  pub there : slice_get files sheet ≡ Some file
  pub before : All (λ (b : SheetFile). IsRead sheet_limits b.bytes) (take sheet files)
  pub fault : ReadsSheet sheet_limits file.bytes (Err f)

-- what opening answers of files and of a file of names
abbrev pub Opens : List SheetFile → List ℕ → Result State OpenFault → Type 0
Opens files names (Ok state) = NamesAreRead files names × (length (sheet_records names) ≤ NAMES) × (state ≡ state_in files names)
Opens files names (Err fault.Memory) = Unit {0}
Opens files names (Err (fault.DuplicateSheet sheet)) = first_twin [] (stems_of files) ≡ Some sheet
Opens files names (Err (fault.Sheet sheet sheet_fault.Memory)) = ⊥
Opens files names (Err (fault.Sheet sheet f)) = IsFirstFault files sheet f
Opens files names (Err fault.TooManyCells) = SheetsAreRead files × (TEXTS < length (texts_in_files 0 files))
Opens files names (Err fault.TooManyFormulas) =
    SheetsAreRead files × (length (texts_in_files 0 files) ≤ TEXTS) × (FORMULAS < length (formulas_in (texts_in_files 0 files)))
Opens files names (Err (fault.NameFile sheet_fault.Memory)) = ⊥
Opens files names (Err (fault.NameFile sheet_fault.TooManyRows)) = ⊥
Opens files names (Err (fault.NameFile (sheet_fault.TooManyColumns n))) = ⊥
Opens files names (Err (fault.NameFile f)) = ContentsFit files × ReadsSheet name_limits names (Err f)
Opens files names (Err (fault.BadNameRow row)) =
    ContentsFit files × IsRead name_limits names × (bad_name_row (stems_of files) [] (sheet_records names) ≡ Some row)
Opens files names (Err fault.TooManyNames) = NamesAreRead files names × (NAMES < length (sheet_records names))
