-- Opening a workbook, step by step.
use Rattle.std.proofs.Common.{◌≡◌, ◌+◌, ◌≤◌, ◌<◌, ℕ, suc, Bool, true, false, cond, List, [], ◌∷◌, ◌++◌, length, Option, Some, None, Err, refl, sym, ap, subst, ◌∙◌, arith}
use Rattle.std.specs.Prelude.{◌||◌, if◌then◌else◌, All, not, position, nat_lt}
use Rattle.std.specs.FinMap.{empty, entries, from_entries, len-empty, len-entries}
use Rattle.std.proofs.lemmas.Bool.Decides.{nat_tests}
use Rattle.std.proofs.lemmas.List.Elements.{All-append, All-cons, All-head, All-nil, All-push, All-tail}
use Rattle.cell_refs.specs.declared.cell.Cell.{Cell}
use Rattle.cell_refs.specs.Cells.{cell_cmp}
use Rattle.cell_refs.proofs.Positions.{nowhere}
use Rattle.sheet_csv.specs.Sheet.{Record, first_long, first_wide, is_long, sheet_records}
use Rattle.sheet_csv.specs.declared.fault.SheetFault.TheVariants as sheet_fault
use Rattle.recalculation.specs.Entries.{Contents}
use Rattle.workbook.specs.declared.fault.OpenFault.{OpenFault}
use Rattle.workbook.specs.declared.fault.OpenFault.TheVariants as fault
use Rattle.cell_refs.specs.declared.limits.TheConstants.{FORMULAS, TEXTS}
use Rattle.workbook.specs.Files.{SheetFile, bad_name_row, is_name, name_in, name_on, names_in, sheet_in, state_in, stems_of, with_name, texts_in_files, texts_in_record, texts_in_records}
use Rattle.workbook.specs.Gathered.{FitsSheet, IsFieldText, records_of, texts_in_sheets}
use Rattle.workbook.specs.Opened.{GathersTexts, ListsSheets, ReadsFiles, ReadsNames, TextsFit}
use Rattle.workbook.specs.Opening.{ContentsFit, IsRead, Opens, SheetsAreRead, first_twin, formulas_in, sheet_limits}
use Rattle.workbook.specs.Scoped.{IsShort}
use Rattle.workbook.specs.State.{Name, State, formula_count, text_count}
use Rattle.workbook.specs.Held.{put_all}
use Rattle.workbook.proofs.Filling.{put_empty}
use Rattle.workbook.proofs.Gathering.{few_formulas}

abbrev pub Texts : Type 0
Texts = List (Cell × List ℕ)

-- ---- what is read fits
not_more : (m n : ℕ) → nat_lt m n ≡ false → n ≤ m
not_more m n h = grind (arith, nat_tests)

narrow : (columns : ℕ) (rows : List Record) → first_wide columns rows ≡ None → All (λ (row : Record). length row ≤ columns) rows
narrow columns [] e = All-nil (λ (row : Record). length row ≤ columns)
narrow columns (row ∷ rows) e =
    let k = nowhere (λ (row : Record). nat_lt columns (length row)) row rows e in
    All-cons (λ (row : Record). length row ≤ columns) row rows (not_more columns (length row) k.0) (narrow columns rows k.1)

pub fit_of : (file : SheetFile) → IsRead sheet_limits file.bytes → FitsSheet (sheet_records file.bytes)
fit_of file h = record { few = h.2; narrow = narrow 1024 (sheet_records file.bytes) h.3 }

pub all_fit : (files : List SheetFile) → All (λ (f : SheetFile). IsRead sheet_limits f.bytes) files → All FitsSheet (records_of files)
all_fit [] h = All-nil FitsSheet
all_fit (f ∷ files) h =
    All-cons FitsSheet (sheet_records f.bytes) (records_of files) (fit_of f (All-head (λ (f : SheetFile). IsRead sheet_limits f.bytes) f files h))
    (all_fit files (All-tail (λ (f : SheetFile). IsRead sheet_limits f.bytes) f files h))

-- ---- the texts of the files
pub same_texts : (sheet : ℕ) (files : List SheetFile) → texts_in_sheets sheet (records_of files) ≡ texts_in_files sheet files
same_texts sheet [] = refl
same_texts sheet (f ∷ files) = ap (λ l. texts_in_records sheet 0 (sheet_records f.bytes) ++ l) (same_texts (suc sheet) files)

any_split : (b c : Bool) → (b || c) ≡ false → (b ≡ false) × (c ≡ false)
any_split true c e = absurd cc
any_split false c e = (refl, e)

module _ (sheets : List (List ℕ)) where
  abbrev pub AreFieldTexts : Texts → Type 0
  AreFieldTexts texts = All (IsFieldText sheets) texts

  field_texts : (sheet row column : ℕ) (fields : Record) → sheet < length sheets → row < 4096 → column + length fields ≤ 1024 → is_long 8192 fields ≡ false
      → AreFieldTexts (texts_in_record sheet row column fields)
  field_texts sheet row column [] lt low fits h = All-nil (IsFieldText sheets)
  field_texts sheet row column ([] ∷ fields) lt low fits h =
      field_texts sheet row (suc column) fields lt low (omega arith) (any_split (nat_lt 8192 0) (is_long 8192 fields) h).1
  field_texts sheet row column ((b ∷ text) ∷ fields) lt low fits h =
      let k = any_split (nat_lt 8192 (length (b ∷ text))) (is_long 8192 fields) h in
      All-cons (IsFieldText sheets) _ _
      (record { some = λ e. cc; short = not_more 8192 (length (b ∷ text)) k.0; listed = record { sheet = lt; row = low; column = omega arith } })
      (field_texts sheet row (suc column) fields lt low (omega arith) k.1)

  record_texts : (sheet row : ℕ) (rows : List Record) → sheet < length sheets → row + length rows ≤ 4096 → first_wide 1024 rows ≡ None → first_long 8192 rows ≡ None
      → AreFieldTexts (texts_in_records sheet row rows)
  record_texts sheet row [] lt fits wide h = All-nil (IsFieldText sheets)
  record_texts sheet row (fields ∷ rows) lt fits wide h =
      let k = nowhere (is_long 8192) fields rows h in
      let w = nowhere (λ (row : Record). nat_lt 1024 (length row)) fields rows wide in
      let few = not_more 1024 (length fields) w.0 in
      All-append (IsFieldText sheets) (texts_in_record sheet row 0 fields) (texts_in_records sheet (suc row) rows)
      (field_texts sheet row 0 fields lt (omega arith) (omega arith) k.0) (record_texts sheet (suc row) rows lt (omega arith) w.1 k.1)

  pub file_texts : (sheet : ℕ) (files : List SheetFile) → sheet + length files ≤ length sheets → All (λ (f : SheetFile). IsRead sheet_limits f.bytes) files → AreFieldTexts (texts_in_files sheet files)
  file_texts sheet [] fits h = All-nil (IsFieldText sheets)
  file_texts sheet (f ∷ files) fits h =
      let one = All-head (λ (f : SheetFile). IsRead sheet_limits f.bytes) f files h in
      All-append (IsFieldText sheets) (texts_in_records sheet 0 (sheet_records f.bytes)) (texts_in_files (suc sheet) files)
      (record_texts sheet 0 (sheet_records f.bytes) (omega arith) (omega (arith, one.2)) one.3 one.4)
      (file_texts (suc sheet) files (omega arith) (All-tail (λ (f : SheetFile). IsRead sheet_limits f.bytes) f files h))

-- ---- names are short
short_on : (before : List Name) (s b t : List ℕ) (c : Option (List ℕ)) (o : Option (Option ℕ)) → All IsShort before → length t ≤ 8192 → All IsShort (with_name before (name_on s b t c o))
short_on before s b t c None all h = all
short_on before s b t c (Some sheet) all h = by_case (is_name b)
  where
    by_case : (is : Bool) → All IsShort (with_name before (if is then Some (record { sheet = sheet; sheet_text = s; name = b; text = t; comment = c }) else None))
    by_case true = All-push IsShort before (record { sheet = sheet; sheet_text = s; name = b; text = t; comment = c }) all h
    by_case false = all

-- the third field of a record is no longer than a field
short_third : (s b t : List ℕ) (more : Record) → is_long 8192 (s ∷ b ∷ t ∷ more) ≡ false → length t ≤ 8192
short_third s b t more h =
    let k = any_split (nat_lt 8192 (length s)) (is_long 8192 (b ∷ t ∷ more)) h in
    let m = any_split (nat_lt 8192 (length b)) (is_long 8192 (t ∷ more)) k.1 in
    not_more 8192 (length t) (any_split (nat_lt 8192 (length t)) (is_long 8192 more) m.1).0

short_row : (sheets : List (List ℕ)) (before : List Name) (row : Record) → All IsShort before → is_long 8192 row ≡ false → All IsShort (with_name before (name_in sheets row))
short_row sheets before [] all h = all
short_row sheets before (s ∷ []) all h = all
short_row sheets before (s ∷ b ∷ []) all h = all
short_row sheets before (s ∷ b ∷ t ∷ []) all h = short_on before s b t None (sheet_in sheets s) all (short_third s b t [] h)
short_row sheets before (s ∷ b ∷ t ∷ c ∷ []) all h = short_on before s b t (Some c) (sheet_in sheets s) all (short_third s b t (c ∷ []) h)
short_row sheets before (s ∷ b ∷ t ∷ c ∷ d ∷ row) all h = all

pub short_names : (sheets : List (List ℕ)) (before : List Name) (rows : List Record) → All IsShort before → first_long 8192 rows ≡ None → All IsShort (names_in sheets before rows)
short_names sheets before [] all h = all
short_names sheets before (row ∷ rows) all h =
    let k = nowhere (is_long 8192) row rows h in
    short_names sheets (with_name before (name_in sheets row)) rows (short_row sheets before row all k.0) k.1

pub no_texts : text_count empty ≡ 0
no_texts = sym (len-entries (empty {X = List ℕ} {R = cell_cmp})) ∙ len-empty cell_cmp (List ℕ)

pub no_formulas : formula_count empty ≡ 0
no_formulas = let a = few_formulas (entries (empty {X = List ℕ} {R = cell_cmp})) in let b = no_texts in omega arith

-- there is room for the texts in a workbook without texts
pub room_for : (files : List SheetFile) (names : List Name) (texts : Texts) (state : State) → state ≡ record { sheets = stems_of files; contents = empty; names = names }
    → texts ≡ texts_in_files 0 files → length texts ≤ TEXTS → length (formulas_in texts) ≤ FORMULAS
    → All (λ (f : SheetFile). IsRead sheet_limits f.bytes) files → TextsFit state texts
room_for files names texts state is same few few_f read = subst (λ s. TextsFit s texts) (sym is) (record {
  room = let a = no_texts in omega arith;
  formulas = let a = no_formulas in omega arith;
  fields = subst (λ l. All (IsFieldText (stems_of files)) l) (sym same) (file_texts (stems_of files) 0 files (let e = listed files in omega arith) read);
})
  where
    listed : (files : List SheetFile) → length (stems_of files) ≡ length files
    listed [] = refl
    listed (f ∷ files) = ap suc (listed files)

-- ---- faults
module _ (files : List SheetFile) (names : List ℕ) where
  pub lists_fault : (e : OpenFault) → ListsSheets files (Err e) → Opens files names (Err e)
  lists_fault (fault.Sheet s f) h = absurd h
  lists_fault fault.TooManyCells h = absurd h
  lists_fault fault.TooManyFormulas h = absurd h
  lists_fault (fault.DuplicateSheet s) h = h
  lists_fault (fault.BadNameRow r) h = absurd h
  lists_fault fault.TooManyNames h = absurd h
  lists_fault (fault.NameFile f) h = absurd h
  lists_fault fault.Memory h = tt

  pub file_fault : (e : OpenFault) → first_twin [] (stems_of files) ≡ None → ReadsFiles files (Err e) → Opens files names (Err e)
  file_fault (fault.Sheet s (sheet_fault.NotUtf8 n)) none h = record { twins = none; file = h.file; there = h.there; before = h.before; fault = h.fault }
  file_fault (fault.Sheet s sheet_fault.TooManyRows) none h = record { twins = none; file = h.file; there = h.there; before = h.before; fault = h.fault }
  file_fault (fault.Sheet s (sheet_fault.TooManyColumns n)) none h = record { twins = none; file = h.file; there = h.there; before = h.before; fault = h.fault }
  file_fault (fault.Sheet s (sheet_fault.FieldTooLong n)) none h = record { twins = none; file = h.file; there = h.there; before = h.before; fault = h.fault }
  file_fault (fault.Sheet s sheet_fault.Memory) none h = absurd h
  file_fault fault.TooManyCells none h = absurd h
  file_fault fault.TooManyFormulas none h = absurd h
  file_fault (fault.DuplicateSheet s) none h = absurd h
  file_fault (fault.BadNameRow r) none h = absurd h
  file_fault fault.TooManyNames none h = absurd h
  file_fault (fault.NameFile f) none h = absurd h
  file_fault fault.Memory none h = tt

  pub text_fault : (e : OpenFault) (sheets : List (List Record)) → sheets ≡ records_of files → SheetsAreRead files → GathersTexts sheets (Err e) → Opens files names (Err e)
  text_fault (fault.Sheet s f) sheets is read h = absurd h
  text_fault fault.TooManyCells sheets is read h = (read, subst (λ l. TEXTS < length l) (ap (texts_in_sheets 0) is ∙ same_texts 0 files) h)
  text_fault fault.TooManyFormulas sheets is read h =
      let same : texts_in_sheets 0 sheets ≡ texts_in_files 0 files = ap (texts_in_sheets 0) is ∙ same_texts 0 files in
      (read, subst (λ l. length l ≤ TEXTS) same h.0, subst (λ l. FORMULAS < length (formulas_in l)) same h.1)
  text_fault (fault.DuplicateSheet s) sheets is read h = absurd h
  text_fault (fault.BadNameRow r) sheets is read h = absurd h
  text_fault fault.TooManyNames sheets is read h = absurd h
  text_fault (fault.NameFile f) sheets is read h = absurd h
  text_fault fault.Memory sheets is read h = tt

  pub name_fault : (e : OpenFault) (stems : List (List ℕ)) → stems ≡ stems_of files → ContentsFit files → ReadsNames stems names (Err e) → Opens files names (Err e)
  name_fault (fault.Sheet s f) stems is fit h = absurd h
  name_fault fault.TooManyCells stems is fit h = absurd h
  name_fault fault.TooManyFormulas stems is fit h = absurd h
  name_fault (fault.DuplicateSheet s) stems is fit h = absurd h
  name_fault (fault.BadNameRow r) stems is fit h = (fit, h.0, subst (λ s. bad_name_row s [] (sheet_records names) ≡ Some r) is h.1)
  name_fault fault.TooManyNames stems is fit h =
      (record { contents = fit; read = h.0; good = subst (λ s. bad_name_row s [] (sheet_records names) ≡ None) is h.1 }, h.2)
  name_fault (fault.NameFile (sheet_fault.NotUtf8 n)) stems is fit h = (fit, h)
  name_fault (fault.NameFile sheet_fault.TooManyRows) stems is fit h = absurd h
  name_fault (fault.NameFile (sheet_fault.TooManyColumns n)) stems is fit h = absurd h
  name_fault (fault.NameFile (sheet_fault.FieldTooLong n)) stems is fit h = (fit, h)
  name_fault (fault.NameFile sheet_fault.Memory) stems is fit h = absurd h
  name_fault fault.Memory stems is fit h = tt

-- ---- the workbook
-- what is read of the sheets is what the files say
pub opened : (files : List SheetFile) (sheets : List (List Record)) → sheets ≡ records_of files → first_twin [] (stems_of files) ≡ None → All (λ (f : SheetFile). IsRead sheet_limits f.bytes) files
    → length (texts_in_sheets 0 sheets) ≤ TEXTS → length (formulas_in (texts_in_sheets 0 sheets)) ≤ FORMULAS → ContentsFit files
opened files sheets is twins read few few_f =
    let same : texts_in_sheets 0 sheets ≡ texts_in_files 0 files = ap (texts_in_sheets 0) is ∙ same_texts 0 files in
    record {
      sheets = record { twins = twins; read = read };
      texts = subst (λ l. length l ≤ TEXTS) same few;
      formulas = subst (λ l. length (formulas_in l) ≤ FORMULAS) same few_f;
    }

abbrev pub start : List (List ℕ) → List Name → State
start sheets names = record { sheets = sheets; contents = empty; names = names }

abbrev with_contents : List (List ℕ) → Contents → List Name → State
with_contents sheets contents names = record { sheets = sheets; contents = contents; names = names }

pub whole : (files : List SheetFile) (bytes : List ℕ) (texts : Texts) (before after : State) (sheets : List (List ℕ)) (names : List Name) → before ≡ start sheets names → sheets ≡ stems_of files
    → names ≡ names_in sheets [] (sheet_records bytes) → texts ≡ texts_in_files 0 files → after ≡ record before { contents = put_all texts before.contents } → after ≡ state_in files bytes
whole files bytes texts before after sheets names is listed named same filled =
    filled ∙ ap (λ s. with_contents s.sheets (put_all texts s.contents) s.names) is
    ∙ ap (λ c. with_contents sheets c names) (put_empty texts)
    ∙ ap (λ l. with_contents sheets (from_entries l) names) same
    ∙ ap (λ n. with_contents sheets (from_entries (texts_in_files 0 files)) n) named
    ∙ ap (λ s. with_contents s (from_entries (texts_in_files 0 files)) (names_in s [] (sheet_records bytes))) listed
