-- The texts of records, and the records of texts.
use Rattle.std.proofs.Common.{◌≡◌, ◌≢◌, ◌<◌, ◌≤◌, ◌+◌, ℕ, zero, suc, Bool, true, false, cond, List, [], ◌∷◌, ◌++◌, get_or, length, map, Option, Some, None, refl, sym, ap, ◌∙◌, arith, ◌⊎◌, inl, inr}
use Rattle.std.specs.Prelude.{unwrap_or, is_some}
use Rattle.std.specs.Cmp.{tied_itself}
use Rattle.std.specs.FinMap.{find, from_entries, get, get-from_entries}
use Rattle.std.specs.List.{range_with_len}
use Rattle.std.specs.Ordering.{eq_by_cmp, is_eq}
use Rattle.std.proofs.lemmas.Map.Views.{tells_apart}
use Rattle.std.proofs.lemmas.List.FromFn.{get_or-map-range_with_len, length-map-range_with_len}
use Rattle.cell_refs.specs.declared.cell.Cell.{Cell}
use Rattle.cell_refs.specs.Cells.{cell_cmp}
use Rattle.cell_refs.proofs.Order.{cells_total, exact_cells}
use Rattle.sheet_csv.specs.Sheet.{Record}
use Rattle.recalculation.specs.Entries.{Contents}
use Rattle.workbook.specs.Contents.{content_of}
use Rattle.workbook.specs.Files.{texts_in_record, texts_in_records}
use Rattle.saved_sheets.specs.Saving.{TextInCell, columns_used, fields_to, rows_used, saved_row, saved_rows, text_at}
use Rattle.saved_sheets.proofs.Used.{IsOn, column_is_used, row_is_used}

-- a text, and none where it is empty
abbrev pub some_text : List ℕ → Option (List ℕ)
some_text [] = None
some_text (b ∷ text) = Some (b ∷ text)

-- ---- what is found at a cell
other : (q c : Cell) → (q ≡ c → ⊥) → eq_by_cmp cell_cmp q c ≡ false
other q c apart = by (eq_by_cmp cell_cmp q c) refl
  where
    by : (b : Bool) → eq_by_cmp cell_cmp q c ≡ b → b ≡ false
    by true e = absurd (apart (tells_apart exact_cells q c e))
    by false e = refl

same : (q c : Cell) → q ≡ c → eq_by_cmp cell_cmp q c ≡ true
same q c e = ap (eq_by_cmp cell_cmp q) (sym e) ∙ ap is_eq (tied_itself cells_total q)

find_other : (q : Cell) (e : TextInCell) (es : List TextInCell) → (q ≡ e.0 → ⊥) → find cell_cmp q (e ∷ es) ≡ find cell_cmp q es
find_other q e es apart = ap (λ b. cond b (Some e.1) (find cell_cmp q es)) (other q e.0 apart)

find_same : (q : Cell) (e : TextInCell) (es : List TextInCell) → q ≡ e.0 → find cell_cmp q (e ∷ es) ≡ Some e.1
find_same q e es is = ap (λ b. cond b (Some e.1) (find cell_cmp q es)) (same q e.0 is)

find_later : (q : Cell) (es fs : List TextInCell) → find cell_cmp q es ≡ None → find cell_cmp q (es ++ fs) ≡ find cell_cmp q fs
find_later q [] fs none = refl
find_later q (e ∷ es) fs none = by (λ h. find_later q es fs h) (eq_by_cmp cell_cmp q e.0) none
  where
    by : (find cell_cmp q es ≡ None → find cell_cmp q (es ++ fs) ≡ find cell_cmp q fs) → (b : Bool) → cond b (Some e.1) (find cell_cmp q es) ≡ None
        → cond b (Some e.1) (find cell_cmp q (es ++ fs)) ≡ find cell_cmp q fs
    by later true h = cc
    by later false h = later h

find_sooner : (q : Cell) (es fs : List TextInCell) → find cell_cmp q fs ≡ None → find cell_cmp q (es ++ fs) ≡ find cell_cmp q es
find_sooner q [] fs none = none
find_sooner q (e ∷ es) fs none = ap (λ o. cond (eq_by_cmp cell_cmp q e.0) (Some e.1) o) (find_sooner q es fs none)

-- ---- in a record
module _ (sheet row : ℕ) (q : Cell) where
  other_row : (column : ℕ) (fields : Record) → (q.row ≡ row → ⊥) → find cell_cmp q (texts_in_record sheet row column fields) ≡ None
  other_row column [] off = refl
  other_row column ([] ∷ fields) off = other_row (suc column) fields off
  other_row column ((b ∷ text) ∷ fields) off =
      find_other q (record { sheet = record { 0 = sheet }; row = row; col = column }, b ∷ text) (texts_in_record sheet row (suc column) fields)
      (λ e. off (ap (λ (c : Cell). c.row) e)) ∙ other_row (suc column) fields off

  sooner_column : (column : ℕ) (fields : Record) → q.col < column → find cell_cmp q (texts_in_record sheet row column fields) ≡ None
  sooner_column column [] before = refl
  sooner_column column ([] ∷ fields) before = sooner_column (suc column) fields (omega (arith, before))
  sooner_column column ((b ∷ text) ∷ fields) before =
      find_other q (record { sheet = record { 0 = sheet }; row = row; col = column }, b ∷ text) (texts_in_record sheet row (suc column) fields)
      (λ e. let col : q.col ≡ column = ap (λ (c : Cell). c.col) e in absurd (omega (arith, before, col)))
      ∙ sooner_column (suc column) fields (omega (arith, before))

  in_record : q.sheet.0 ≡ sheet → q.row ≡ row → (column k : ℕ) (fields : Record) → q.col ≡ column + k
      → find cell_cmp q (texts_in_record sheet row column fields) ≡ some_text (get_or fields k [])
  in_record on at column k [] place = refl
  in_record on at column zero ([] ∷ fields) place = sooner_column (suc column) fields (omega (arith, place))
  in_record on at column (suc k) ([] ∷ fields) place = in_record on at (suc column) k fields (omega (arith, place))
  in_record on at column zero ((b ∷ text) ∷ fields) place =
      find_same q (record { sheet = record { 0 = sheet }; row = row; col = column }, b ∷ text) (texts_in_record sheet row (suc column) fields)
      (let col : q.col ≡ column = omega (arith, place) in λ i. record { sheet = record { 0 = on i }; row = at i; col = col i })
  in_record on at column (suc k) ((b ∷ text) ∷ fields) place =
      find_other q (record { sheet = record { 0 = sheet }; row = row; col = column }, b ∷ text) (texts_in_record sheet row (suc column) fields)
      (λ e. let col : q.col ≡ column = ap (λ (c : Cell). c.col) e in absurd (omega (arith, place, col)))
      ∙ in_record on at (suc column) k fields (omega (arith, place))

-- ---- in records
module _ (sheet : ℕ) (q : Cell) where
  sooner_row : (row : ℕ) (records : List Record) → q.row < row → find cell_cmp q (texts_in_records sheet row records) ≡ None
  sooner_row row [] before = refl
  sooner_row row (fields ∷ records) before =
      find_later q (texts_in_record sheet row 0 fields) (texts_in_records sheet (suc row) records)
      (other_row sheet row q 0 fields (λ e. absurd (omega (arith, before, e))))
      ∙ sooner_row (suc row) records (omega (arith, before))

  in_records : q.sheet.0 ≡ sheet → (row k : ℕ) (records : List Record) → q.row ≡ row + k
      → find cell_cmp q (texts_in_records sheet row records) ≡ some_text (get_or (get_or records k []) q.col [])
  in_records on row k [] place = refl
  in_records on row zero (fields ∷ records) place =
      find_sooner q (texts_in_record sheet row 0 fields) (texts_in_records sheet (suc row) records) (sooner_row (suc row) records (omega (arith, place)))
      ∙ in_record sheet row q on (omega (arith, place)) 0 q.col fields (omega arith)
  in_records on row (suc k) (fields ∷ records) place =
      find_later q (texts_in_record sheet row 0 fields) (texts_in_records sheet (suc row) records)
      (other_row sheet row q 0 fields (λ e. absurd (omega (arith, place, e))))
      ∙ in_records on (suc row) k records (omega (arith, place))

-- the text of a field of the records
pub found_field : (sheet : ℕ) (records : List Record) (q : Cell) → q.sheet.0 ≡ sheet
    → get (from_entries {R = cell_cmp} (texts_in_records sheet 0 records)) q ≡ some_text (get_or (get_or records q.row []) q.col [])
found_field sheet records q on = get-from_entries cells_total (texts_in_records sheet 0 records) q ∙ in_records sheet q on 0 q.row records (omega arith)

-- ---- the fields that are saved
past_end : {X : Type 0} (xs : List X) (i : ℕ) (d : X) → length xs ≤ i → get_or xs i d ≡ d
past_end [] i d h = refl
past_end (x ∷ xs) zero d h = absurd (omega (arith, h))
past_end (x ∷ xs) (suc i) d h = past_end xs i d (omega (arith, h))

below_or_not : (i n : ℕ) → (i < n) ⊎ (n ≤ i)
below_or_not zero zero = inr (omega arith)
below_or_not zero (suc n) = inl (omega arith)
below_or_not (suc i) zero = inr (omega arith)
below_or_not (suc i) (suc n) = elim (below_or_not i n) as (λ _. (suc i < suc n) ⊎ (suc n ≤ suc i)) [ inl h ↦ inl (omega (arith, h)) | inr h ↦ inr (omega (arith, h)) ]

module _ (contents : Contents) (sheet : ℕ) where
  -- where the row reaches to the column it has the text
  field_of : (row column n : ℕ) → column < n → get_or (fields_to contents sheet row n) column [] ≡ text_at contents sheet row column
  field_of row column zero below = absurd (omega (arith, below))
  field_of row column (suc n) below = get_or-map-range_with_len (text_at contents sheet row) 0 (suc n) column column [] below (omega arith)

  -- and no text else
  no_field_of : (row column n : ℕ) → n ≤ column → get_or (fields_to contents sheet row n) column [] ≡ []
  no_field_of row zero zero past = refl
  no_field_of row (suc column) zero past = refl
  no_field_of row column (suc n) past =
      past_end (map (text_at contents sheet row) (range_with_len 0 (suc n))) column [] (let l = length-map-range_with_len (text_at contents sheet row) 0 (suc n) in omega (arith, past, l))

  row_of : (row : ℕ) → row < rows_used contents sheet → get_or (saved_rows contents sheet) row [] ≡ saved_row contents sheet row
  row_of row below = get_or-map-range_with_len (saved_row contents sheet) 0 (rows_used contents sheet) row row [] below (omega arith)

  no_row_of : (row : ℕ) → rows_used contents sheet ≤ row → get_or (saved_rows contents sheet) row [] ≡ []
  no_row_of row past = past_end (saved_rows contents sheet) row [] (let l = length-map-range_with_len (saved_row contents sheet) 0 (rows_used contents sheet) in omega (arith, past, l))

  abbrev saved_field : Cell → List ℕ
  saved_field q = get_or (get_or (saved_rows contents sheet) q.row []) q.col []

  -- a field that is saved is the text, or it is empty
  text_or_none : (q : Cell) → (saved_field q ≡ text_at contents sheet q.row q.col) ⊎ (saved_field q ≡ [])
  text_or_none q = elim (below_or_not q.row (rows_used contents sheet)) as (λ _. (saved_field q ≡ text_at contents sheet q.row q.col) ⊎ (saved_field q ≡ [])) [
    | inl low ↦ elim (below_or_not q.col (columns_used contents sheet q.row)) as (λ _. (saved_field q ≡ text_at contents sheet q.row q.col) ⊎ (saved_field q ≡ [])) [
      | inl left ↦ inl (ap (λ (fields : Record). get_or fields q.col []) (row_of q.row low) ∙ field_of q.row q.col (columns_used contents sheet q.row) left)
      | inr right ↦ inr (ap (λ (fields : Record). get_or fields q.col []) (row_of q.row low) ∙ no_field_of q.row q.col (columns_used contents sheet q.row) right)
    ]
    | inr high ↦ inr (ap (λ (fields : Record). get_or fields q.col []) (no_row_of q.row high))
  ]

  its_text : (q : Cell) → q.sheet.0 ≡ sheet → text_at contents sheet q.row q.col ≡ content_of contents q
  its_text q on = ap (λ s. content_of contents (record { sheet = record { 0 = s }; row = q.row; col = q.col })) (sym on)

  text_there : (q : Cell) → IsOn contents sheet q → saved_field q ≡ content_of contents q
  text_there q on =
      ap (λ (fields : Record). get_or fields q.col []) (row_of q.row (row_is_used contents sheet q on))
      ∙ field_of q.row q.col (columns_used contents sheet q.row) (column_is_used contents sheet q on) ∙ its_text q on.1

  some_text_of : (text : List ℕ) → text ≢ [] → some_text text ≡ Some text
  some_text_of [] some = absurd (some refl)
  some_text_of (b ∷ text) some = refl

  -- where no text is empty the fields have the texts
  pub has_its_text : ((q : Cell) → get contents q ≢ Some []) → (q : Cell) → q.sheet.0 ≡ sheet → some_text (saved_field q) ≡ get contents q
  has_its_text some q on = by (get contents q) refl
    where
      by : (o : Option (List ℕ)) → get contents q ≡ o → some_text (saved_field q) ≡ o
      by None e = elim (text_or_none q) as (λ _. some_text (saved_field q) ≡ None) [
        | inl is ↦ ap some_text (is ∙ its_text q on ∙ ap (λ (o : Option (List ℕ)). unwrap_or o []) e)
        | inr is ↦ ap some_text is
      ]
      by (Some text) e =
          ap some_text (text_there q (ap is_some e, on) ∙ ap (λ (o : Option (List ℕ)). unwrap_or o []) e)
          ∙ some_text_of text (λ empty. some q (e ∙ ap (λ (t : List ℕ). Some t) empty))

  pub has_a_field : (row n : ℕ) → fields_to contents sheet row n ≢ []
  has_a_field row zero e = cc
  has_a_field row (suc n) e =
      let none = ap length e in
      let some = length-map-range_with_len (text_at contents sheet row) 0 (suc n) in
      absurd (omega (arith, none, some))
