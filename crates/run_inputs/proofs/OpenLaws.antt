-- The first fault of files that are opened is the one that opening answers.
use Rattle.std.proofs.Common.{◌≡◌, ◌≤◌, ◌+◌, ◌∷◌, [], ℕ, zero, suc, false, inl, inr, List, Some, None, length, take, refl, ap, sym, arith, ◌∙◌}
use Rattle.std.specs.Prelude.{All, Ok, Err, slice_get, IsUtf8, ⊤}
use Rattle.std.specs.Str.{is_utf8}
use Rattle.std.proofs.lemmas.Bool.{cases_Bool, lt-ltb, le-ltb}
use Rattle.std.proofs.lemmas.List.Elements.{All-head, All-tail}
use Rattle.std.proofs.lemmas.Str.{IsUtf8-from_is_utf8, is_utf8-from_IsUtf8}
use Rattle.sheet_csv.specs.Reads.{ReadsSheet}
use Rattle.sheet_csv.specs.Sheet.{sheet_records}
use Rattle.sheet_csv.specs.declared.fault.CsvLimits.{CsvLimits}
use Rattle.sheet_csv.specs.declared.fault.SheetFault.{SheetFault}
use Rattle.sheet_csv.specs.declared.fault.SheetFault.TheVariants as sheet_fault
use Rattle.cell_refs.specs.declared.limits.TheConstants.{FORMULAS, NAMES, TEXTS}
use Rattle.workbook.specs.declared.fault.OpenFault.{OpenFault}
use Rattle.workbook.specs.declared.fault.OpenFault.TheVariants as fault
use Rattle.workbook.specs.Files.{SheetFile, texts_in_files}
use Rattle.workbook.specs.Opening.{ContentsFit, IsFirstFault, IsRead, NamesAreRead, Opens, formulas_in, name_limits, sheet_limits}
use Rattle.workbook.specs.State.{State}
use Rattle.run_inputs.specs.Findings.{opened_from}
use Rattle.run_inputs.specs.Opening.{file_fault, first_of, names_fault, opening_fault, sheet_faults}
use Rattle.run_inputs.specs.Stops.{open_stop}
use Rattle.run_inputs.specs.declared.stop.Stop.{Stop}

-- ---- text
pub no_text : (bytes : List ℕ) → ¬ (IsUtf8 bytes) → is_utf8 bytes ≡ false
no_text bytes h = elim (cases_Bool (is_utf8 bytes)) [
  | inl is ↦ absurd (h (IsUtf8-from_is_utf8 bytes is))
  | inr other ↦ other
]

-- ---- one file
file_read : (limits : CsvLimits) (bytes : List ℕ) → IsRead limits bytes → file_fault limits bytes ≡ None
file_read limits bytes (same, text, rows, wide, long) = rw (is_utf8-from_IsUtf8 bytes text, le-ltb limits.rows (length (sheet_records bytes)) rows, wide, long) refl

-- a fault other than want of memory
abbrev IsTold : SheetFault → Type 0
IsTold sheet_fault.Memory = ⊥
IsTold _ = ⊤

file_stops : (limits : CsvLimits) (bytes : List ℕ) (f : SheetFault) → IsTold f → ReadsSheet limits bytes (Err f) → file_fault limits bytes ≡ Some f
file_stops limits bytes (sheet_fault.NotUtf8 place) told (text, is) = rw (no_text bytes text, is) refl
file_stops limits bytes sheet_fault.TooManyRows told (text, rows) = rw (is_utf8-from_IsUtf8 bytes text, lt-ltb limits.rows (length (sheet_records bytes)) rows) refl
file_stops limits bytes (sheet_fault.TooManyColumns row) told (text, rows, wide) = rw (is_utf8-from_IsUtf8 bytes text, le-ltb limits.rows (length (sheet_records bytes)) rows, wide) refl
file_stops limits bytes (sheet_fault.FieldTooLong row) told (text, rows, wide, long) = rw (is_utf8-from_IsUtf8 bytes text, le-ltb limits.rows (length (sheet_records bytes)) rows, wide, long) refl
file_stops limits bytes sheet_fault.Memory told h = absurd told

-- ---- the sheets
sheets_read : (i : ℕ) (files : List SheetFile) → All (λ (f : SheetFile). IsRead sheet_limits f.bytes) files → first_of (sheet_faults i files) ≡ None
sheets_read i [] all = refl
sheets_read i (f ∷ files) all =
    rw (file_read sheet_limits f.bytes (All-head (λ (b : SheetFile). IsRead sheet_limits b.bytes) f files all))
    (sheets_read (suc i) files (All-tail (λ (b : SheetFile). IsRead sheet_limits b.bytes) f files all))

sheets_stop : (i : ℕ) (files : List SheetFile) (k : ℕ) (file : SheetFile) (f : SheetFault) → slice_get files k ≡ Some file → All (λ (b : SheetFile). IsRead sheet_limits b.bytes) (take k files)
    → file_fault sheet_limits file.bytes ≡ Some f → first_of (sheet_faults i files) ≡ Some (fault.Sheet (k + i) f)
sheets_stop i [] k file f there before stops = cc there
sheets_stop i (x ∷ files) zero file f there before stops =
    let same : x ≡ file = cc in
    let here : file_fault sheet_limits x.bytes ≡ Some f = ap (λ (z : SheetFile). file_fault sheet_limits z.bytes) same ∙ stops in
    let none : i ≡ 0 + i = omega arith in
    rw here (ap (λ (n : ℕ). Some (fault.Sheet n f)) none)
sheets_stop i (x ∷ files) (suc k) file f there before stops =
    let rest = sheets_stop (suc i) files k file f there (All-tail (λ (b : SheetFile). IsRead sheet_limits b.bytes) x (take k files) before) stops in
    let next : k + suc i ≡ suc k + i = omega arith in
    rw (file_read sheet_limits x.bytes (All-head (λ (b : SheetFile). IsRead sheet_limits b.bytes) x (take k files) before))
    (rest ∙ ap (λ (n : ℕ). Some (fault.Sheet n f)) next)

first_sheet : (files : List SheetFile) (k : ℕ) (f : SheetFault) → IsTold f → IsFirstFault files k f → first_of (sheet_faults 0 files) ≡ Some (fault.Sheet k f)
first_sheet files k f told first =
    let same : k + 0 ≡ k = omega arith in
    sheets_stop 0 files k first.file f first.there first.before (file_stops sheet_limits first.file.bytes f told first.fault) ∙ ap (λ (n : ℕ). Some (fault.Sheet n f)) same

-- ---- the names
names_read : (names : List ℕ) → IsRead name_limits names → names_fault names ≡ None
names_read names (same, text, rows, wide, long) = rw (is_utf8-from_IsUtf8 names text, long) refl

-- ---- all
fits : (files : List SheetFile) (names : List ℕ) → ContentsFit files → names_fault names ≡ None → NamesAreRead files names → length (sheet_records names) ≤ NAMES → opening_fault files names ≡ None
fits files names c n are few =
    rw (
      c.sheets.twins,
      sheets_read 0 files c.sheets.read,
      le-ltb TEXTS (length (texts_in_files 0 files)) c.texts,
      le-ltb FORMULAS (length (formulas_in (texts_in_files 0 files))) c.formulas,
      n,
      are.good,
      le-ltb NAMES (length (sheet_records names)) few,
    ) refl

opened_fault : (files : List SheetFile) (names : List ℕ) (f : OpenFault) (stop : Stop) → open_stop f ≡ Some stop → Opens files names (Err f) → opening_fault files names ≡ Some f
opened_fault files names fault.Memory stop is h = cc is
opened_fault files names (fault.DuplicateSheet sheet) stop is h = rw h refl
opened_fault files names (fault.Sheet sheet sheet_fault.Memory) stop is h = absurd h
opened_fault files names (fault.Sheet sheet (sheet_fault.NotUtf8 place)) stop is h = rw (h.twins, first_sheet files sheet (sheet_fault.NotUtf8 place) tt h) refl
opened_fault files names (fault.Sheet sheet sheet_fault.TooManyRows) stop is h = rw (h.twins, first_sheet files sheet sheet_fault.TooManyRows tt h) refl
opened_fault files names (fault.Sheet sheet (sheet_fault.TooManyColumns row)) stop is h = rw (h.twins, first_sheet files sheet (sheet_fault.TooManyColumns row) tt h) refl
opened_fault files names (fault.Sheet sheet (sheet_fault.FieldTooLong row)) stop is h = rw (h.twins, first_sheet files sheet (sheet_fault.FieldTooLong row) tt h) refl
opened_fault files names fault.TooManyCells stop is (sheets, many) =
    rw (sheets.twins, sheets_read 0 files sheets.read, lt-ltb TEXTS (length (texts_in_files 0 files)) many) refl
opened_fault files names fault.TooManyFormulas stop is (sheets, few, many) =
    rw (sheets.twins, sheets_read 0 files sheets.read, le-ltb TEXTS (length (texts_in_files 0 files)) few, lt-ltb FORMULAS (length (formulas_in (texts_in_files 0 files))) many) refl
opened_fault files names (fault.NameFile (sheet_fault.NotUtf8 place)) stop is (c, (text, at)) =
    rw (c.sheets.twins, sheets_read 0 files c.sheets.read, le-ltb TEXTS (length (texts_in_files 0 files)) c.texts, le-ltb FORMULAS (length (formulas_in (texts_in_files 0 files))) c.formulas, no_text names text, at) refl
opened_fault files names (fault.NameFile sheet_fault.TooManyRows) stop is h = absurd h
opened_fault files names (fault.NameFile (sheet_fault.TooManyColumns n)) stop is h = absurd h
opened_fault files names (fault.NameFile (sheet_fault.FieldTooLong row)) stop is (c, (text, rows, wide, long)) =
    rw (
      c.sheets.twins,
      sheets_read 0 files c.sheets.read,
      le-ltb TEXTS (length (texts_in_files 0 files)) c.texts,
      le-ltb FORMULAS (length (formulas_in (texts_in_files 0 files))) c.formulas,
      is_utf8-from_IsUtf8 names text,
      long,
    ) refl
opened_fault files names (fault.NameFile sheet_fault.Memory) stop is h = absurd h
opened_fault files names (fault.BadNameRow row) stop is (c, read, bad) =
    rw (
      c.sheets.twins,
      sheets_read 0 files c.sheets.read,
      le-ltb TEXTS (length (texts_in_files 0 files)) c.texts,
      le-ltb FORMULAS (length (formulas_in (texts_in_files 0 files))) c.formulas,
      names_read names read,
      bad,
    ) refl
opened_fault files names fault.TooManyNames stop is (are, many) =
    rw (
      are.contents.sheets.twins,
      sheets_read 0 files are.contents.sheets.read,
      le-ltb TEXTS (length (texts_in_files 0 files)) are.contents.texts,
      le-ltb FORMULAS (length (formulas_in (texts_in_files 0 files))) are.contents.formulas,
      names_read names are.read,
      are.good,
      lt-ltb NAMES (length (sheet_records names)) many,
    ) refl

-- ---- the workbook
pub opens : (files : List SheetFile) (names : List ℕ) (book : State) → Opens files names (Ok book) → opened_from files names ≡ Ok book
opens files names book (are, few, is) =
    rw (fits files names are.contents (names_read names are.read) are few) (ap Ok (sym is))

pub stops : (files : List SheetFile) (names : List ℕ) (f : OpenFault) (stop : Stop) → open_stop f ≡ Some stop → Opens files names (Err f) → opened_from files names ≡ Err stop
stops files names f stop is h = rw (opened_fault files names f stop is h, is) refl
