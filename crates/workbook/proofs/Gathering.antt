-- The texts of sheets, one after the other.
use Rattle.std.proofs.Common.{◌≡◌, ◌+◌, ◌<◌, ◌≤◌, ℕ, suc, Bool, true, false, cond, List, [], ◌∷◌, ◌++◌, length, drop, Some, refl, sym, ap, ◌∙◌, append_assoc, append-nil, arith}
use Rattle.std.specs.Prelude.{◌==◌, slice_get}
use Rattle.std.proofs.lemmas.List.{drop_more, drop_all, length-append}
use Rattle.std.proofs.lemmas.Bool.{eqb-true}
use Rattle.std.proofs.lemmas.Option.{get_or_from_slice_get, slice_get_within}
use Rattle.cell_refs.specs.declared.cell.Cell.{Cell}
use Rattle.sheet_csv.specs.Sheet.{Record}
use Rattle.cell_refs.specs.declared.limits.TheConstants.{TEXTS}
use Rattle.workbook.specs.declared.gather.Stop.{Stop}
use Rattle.workbook.specs.declared.gather.Stop.TheVariants as stop
use Rattle.workbook.specs.Files.{texts_in_record, texts_in_records}
use Rattle.workbook.specs.Gathered.{IsStop, texts_in_sheets}
use Rattle.workbook.specs.Opening.{formulas_in}
use Rattle.workbook.specs.State.{is_formula_text}

abbrev pub Texts : Type 0
Texts = List (Cell × List ℕ)

next : (n : ℕ) → suc n ≡ n + 1
next n = omega arith

pub left_from : {A : Type 0} (xs : List A) (i : ℕ) (x : A) → slice_get xs i ≡ Some x → drop i xs ≡ x ∷ drop (i + 1) xs
left_from xs i x at = drop_more xs i x (slice_get_within xs i x at) ∙ ap (λ y. y ∷ drop (i + 1) xs) (get_or_from_slice_get xs i x x at)

abbrev pub cell_of : ℕ → ℕ → ℕ → Cell
cell_of sheet row column = record { sheet = record { 0 = sheet }; row = row; col = column }

-- ---- the fields of a record
passed : (sheet row column : ℕ) (text : List ℕ) (rest : Record) → (length text == 0) ≡ true → texts_in_record sheet row column (text ∷ rest) ≡ texts_in_record sheet row (suc column) rest
passed sheet row column [] rest e = refl
passed sheet row column (b ∷ text) rest e = absurd (let k : suc (length text) ≡ 0 = eqb-true (suc (length text)) 0 e in omega arith)

one_text : (sheet row column : ℕ) (text : List ℕ) (rest : Record) → (length text == 0) ≡ false
    → texts_in_record sheet row column (text ∷ rest) ≡ (cell_of sheet row column, text) ∷ texts_in_record sheet row (suc column) rest
one_text sheet row column [] rest e = absurd (let k : true ≡ false = e in cc)
one_text sheet row column (b ∷ text) rest e = refl

module _ (sheet row column : ℕ) (fields : Record) (text : List ℕ) (before total : Texts) (at : slice_get fields column ≡ Some text)
    (so_far : before ++ texts_in_record sheet row column (drop column fields) ≡ total) where
  split : texts_in_record sheet row column (drop column fields) ≡ texts_in_record sheet row column (text ∷ drop (column + 1) fields)
  split = ap (texts_in_record sheet row column) (left_from fields column text at)

  pub field_passed : (length text == 0) ≡ true → before ++ texts_in_record sheet row (column + 1) (drop (column + 1) fields) ≡ total
  field_passed e =
      ap (λ n. before ++ texts_in_record sheet row n (drop (column + 1) fields)) (sym (next column))
      ∙ ap (λ l. before ++ l) (sym (split ∙ passed sheet row column text (drop (column + 1) fields) e)) ∙ so_far

  pub field_put : (after : Texts) (own : List ℕ) → (length text == 0) ≡ false → own ≡ text → after ≡ before ++ (cell_of sheet row column, own) ∷ []
      → after ++ texts_in_record sheet row (column + 1) (drop (column + 1) fields) ≡ total
  field_put after own e same is =
      ap (λ l. l ++ texts_in_record sheet row (column + 1) (drop (column + 1) fields)) (is ∙ ap (λ t. before ++ (cell_of sheet row column, t) ∷ []) same)
      ∙ append_assoc before ((cell_of sheet row column, text) ∷ []) (texts_in_record sheet row (column + 1) (drop (column + 1) fields))
      ∙ ap (λ n. before ++ (cell_of sheet row column, text) ∷ texts_in_record sheet row n (drop (column + 1) fields)) (sym (next column))
      ∙ ap (λ l. before ++ l) (sym (split ∙ one_text sheet row column text (drop (column + 1) fields) e)) ∙ so_far

pub all_fields : (sheet row column : ℕ) (fields : Record) (before total : Texts) → length fields ≤ column → before ++ texts_in_record sheet row column (drop column fields) ≡ total → before ≡ total
all_fields sheet row column fields before total h so_far =
    sym (append-nil before) ∙ ap (λ l. before ++ texts_in_record sheet row column l) (sym (drop_all column fields h)) ∙ so_far

-- ---- the records of a sheet
pub record_put : (sheet row : ℕ) (rows : List Record) (fields : Record) (before after total : Texts) → slice_get rows row ≡ Some fields → after ≡ before ++ texts_in_record sheet row 0 fields
    → before ++ texts_in_records sheet row (drop row rows) ≡ total → after ++ texts_in_records sheet (row + 1) (drop (row + 1) rows) ≡ total
record_put sheet row rows fields before after total at is so_far =
    ap (λ l. l ++ texts_in_records sheet (row + 1) (drop (row + 1) rows)) is
    ∙ append_assoc before (texts_in_record sheet row 0 fields) (texts_in_records sheet (row + 1) (drop (row + 1) rows))
    ∙ ap (λ n. before ++ (texts_in_record sheet row 0 fields ++ texts_in_records sheet n (drop (row + 1) rows))) (sym (next row))
    ∙ ap (λ l. before ++ texts_in_records sheet row l) (sym (left_from rows row fields at)) ∙ so_far

pub all_records : (sheet row : ℕ) (rows : List Record) (before total : Texts) → length rows ≤ row → before ++ texts_in_records sheet row (drop row rows) ≡ total → before ≡ total
all_records sheet row rows before total h so_far =
    sym (append-nil before) ∙ ap (λ l. before ++ texts_in_records sheet row l) (sym (drop_all row rows h)) ∙ so_far

-- ---- the sheets
pub sheet_put : (sheet : ℕ) (sheets : List (List Record)) (rows : List Record) (before after total : Texts) → drop sheet sheets ≡ rows ∷ drop (sheet + 1) sheets
    → after ≡ before ++ texts_in_records sheet 0 rows → before ++ texts_in_sheets sheet (drop sheet sheets) ≡ total → after ++ texts_in_sheets (sheet + 1) (drop (sheet + 1) sheets) ≡ total
sheet_put sheet sheets rows before after total at is so_far =
    ap (λ l. l ++ texts_in_sheets (sheet + 1) (drop (sheet + 1) sheets)) is
    ∙ append_assoc before (texts_in_records sheet 0 rows) (texts_in_sheets (sheet + 1) (drop (sheet + 1) sheets))
    ∙ ap (λ n. before ++ (texts_in_records sheet 0 rows ++ texts_in_sheets n (drop (sheet + 1) sheets))) (sym (next sheet))
    ∙ ap (λ l. before ++ texts_in_sheets sheet l) (sym at) ∙ so_far

pub all_sheets : (sheet : ℕ) (sheets : List (List Record)) (before total : Texts) → length sheets ≤ sheet → before ++ texts_in_sheets sheet (drop sheet sheets) ≡ total → before ≡ total
all_sheets sheet sheets before total h so_far =
    sym (append-nil before) ∙ ap (λ l. before ++ texts_in_sheets sheet l) (sym (drop_all sheet sheets h)) ∙ so_far

-- ---- too many
pub past : (before rest total : Texts) → TEXTS < length before → before ++ rest ≡ total → TEXTS < length total
past before rest total h is = let e : length before + length rest ≡ length total = sym (length-append before rest) ∙ ap length is in omega arith

pub stops : (before here rest total : Texts) (s : Stop) → before ++ (here ++ rest) ≡ total → IsStop (before ++ here) s → IsStop total s
stops before here rest total stop.Full is h = past (before ++ here) rest total h (append_assoc before here rest ∙ is)
stops before here rest total stop.Memory is h = tt

-- ---- formulas among the texts
pub few_formulas : (texts : Texts) → length (formulas_in texts) ≤ length texts
few_formulas [] = omega arith
few_formulas (e ∷ texts) = by_case (is_formula_text e.1) (few_formulas texts)
  where
    by_case : (b : Bool) → length (formulas_in texts) ≤ length texts → length (cond b (e ∷ formulas_in texts) (formulas_in texts)) ≤ suc (length texts)
    by_case true h = omega arith
    by_case false h = omega arith

pub formula_next : (texts : Texts) (i n total : ℕ) (e : Cell × List ℕ) → drop i texts ≡ e ∷ drop (i + 1) texts → is_formula_text e.1 ≡ true
    → n + length (formulas_in (drop i texts)) ≡ total → (n + 1) + length (formulas_in (drop (i + 1) texts)) ≡ total
formula_next texts i n total e at h so_far =
    let k : length (formulas_in (drop i texts)) ≡ suc (length (formulas_in (drop (i + 1) texts))) =
    ap (λ l. length (formulas_in l)) at ∙ ap (λ b. length (cond b (e ∷ formulas_in (drop (i + 1) texts)) (formulas_in (drop (i + 1) texts)))) h in
    omega arith

pub other_next : (texts : Texts) (i n total : ℕ) (e : Cell × List ℕ) → drop i texts ≡ e ∷ drop (i + 1) texts → is_formula_text e.1 ≡ false
    → n + length (formulas_in (drop i texts)) ≡ total → n + length (formulas_in (drop (i + 1) texts)) ≡ total
other_next texts i n total e at h so_far =
    let k : length (formulas_in (drop i texts)) ≡ length (formulas_in (drop (i + 1) texts)) =
    ap (λ l. length (formulas_in l)) at ∙ ap (λ b. length (cond b (e ∷ formulas_in (drop (i + 1) texts)) (formulas_in (drop (i + 1) texts)))) h in
    omega arith
