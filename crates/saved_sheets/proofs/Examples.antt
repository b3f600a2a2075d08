-- Sheets and the bytes under which they are saved.
use Rattle.std.proofs.Common.{◌≡◌, ℕ, zero, suc, T, List, [], ◌∷◌, ◌++◌, map, refl, ap, ◌∙◌}
use Rattle.std.specs.Prelude.{◌==◌, ◌&&◌, codes, filter, unwrap_or}
use Rattle.csv.specs.Writing.{escaped, fields_text, is_blank}
use Rattle.std.specs.FinMap.{entries, entries-from_sorted, find, from_sorted, get, get-from_sorted, is_sorted}
use Rattle.std.specs.List.{range_with_len}
use Rattle.cell_refs.specs.declared.cell.Cell.{Cell}
use Rattle.cell_refs.specs.Cells.{cell_cmp}
use Rattle.recalculation.specs.Entries.{Contents}
use Rattle.sheet_csv.specs.Sheet.{Record, saved_text}
use Rattle.saved_sheets.specs.Saving.{TextInCell, fields_to, greatest_of, saved_rows}

-- ---- the records of listed texts
abbrev listed_rows : List TextInCell → ℕ → ℕ
listed_rows es sheet = greatest_of (map (λ (e : TextInCell). suc e.0.row) (filter (λ (e : TextInCell). e.0.sheet.0 == sheet) es))

abbrev listed_columns : List TextInCell → ℕ → ℕ → ℕ
listed_columns es sheet row =
    greatest_of (map (λ (e : TextInCell). suc e.0.col) (filter (λ (e : TextInCell). (e.0.sheet.0 == sheet) && (e.0.row == row)) es))

abbrev listed_fields : List TextInCell → ℕ → ℕ → ℕ → Record
listed_fields es sheet row zero = [] ∷ []
listed_fields es sheet row (suc n) =
    map (λ (column : ℕ). unwrap_or (find cell_cmp (record { sheet = record { 0 = sheet }; row = row; col = column }) es) []) (range_with_len 0 (suc n))

abbrev listed_records : List TextInCell → ℕ → List Record
listed_records es sheet = map (λ (row : ℕ). listed_fields es sheet row (listed_columns es sheet row)) (range_with_len 0 (listed_rows es sheet))

same_fields : (contents : Contents) (es : List TextInCell) → ((q : Cell) → get contents q ≡ find cell_cmp q es) → (sheet row n : ℕ)
    → fields_to contents sheet row n ≡ listed_fields es sheet row n
same_fields contents es found sheet row zero = refl
same_fields contents es found sheet row (suc n) =
    λ i. map (λ (column : ℕ). unwrap_or (found (record { sheet = record { 0 = sheet }; row = row; col = column }) i) []) (range_with_len 0 (suc n))

same_records : (contents : Contents) (es : List TextInCell) → entries contents ≡ es → ((q : Cell) → get contents q ≡ find cell_cmp q es) → (sheet : ℕ)
    → saved_rows contents sheet ≡ listed_records es sheet
same_records contents es listed found sheet =
    λ i. map (λ (row : ℕ). same_fields contents es found sheet row (listed_columns (listed i) sheet row) i) (range_with_len 0 (listed_rows (listed i) sheet))

-- the bytes of a sheet whose texts are listed in their order
saves : (es : List TextInCell) → T (is_sorted cell_cmp es) → (sheet : ℕ) (bytes : List ℕ) → saved_text (listed_records es sheet) ≡ bytes
    → saved_text (saved_rows (from_sorted {R = cell_cmp} es) sheet) ≡ bytes
saves es sorted sheet bytes are =
    ap saved_text (same_records (from_sorted {R = cell_cmp} es) es (entries-from_sorted cell_cmp es sorted) (λ q. get-from_sorted cell_cmp es q sorted) sheet) ∙ are

-- ---- examples
abbrev text : ℕ → ℕ → ℕ → List ℕ → TextInCell
text sheet row column bytes = (record { sheet = record { 0 = sheet }; row = row; col = column }, bytes)

-- a row without texts between two others is one empty field
abbrev gap : List TextInCell
gap = text 0 0 0 (codes "1") ∷ text 0 2 1 (codes "x") ∷ []

gap_row : saved_text (saved_rows (from_sorted {R = cell_cmp} gap) 0) ≡ codes "1" ++ (10 ∷ 34 ∷ 34 ∷ 10 ∷ codes ",x") ++ 10 ∷ []
unfolding escaped fields_text is_blank
gap_row = saves gap tt 0 _ refl

-- fields before the first text of a row are empty
abbrev third : List TextInCell
third = text 0 0 2 (codes "z") ∷ []

third_column : saved_text (saved_rows (from_sorted {R = cell_cmp} third) 0) ≡ codes ",,z" ++ 10 ∷ []
unfolding escaped fields_text is_blank
third_column = saves third tt 0 _ refl

-- a sheet without texts has no records, and no bytes
abbrev elsewhere : List TextInCell
elsewhere = text 1 0 0 (codes "y") ∷ []

no_bytes : saved_text (saved_rows (from_sorted {R = cell_cmp} elsewhere) 0) ≡ []
unfolding escaped fields_text is_blank
no_bytes = saves elsewhere tt 0 _ refl

-- rows before the first text are empty
abbrev fifth : List TextInCell
fifth = text 0 4 0 (codes "a") ∷ []

fifth_row : saved_text (saved_rows (from_sorted {R = cell_cmp} fifth) 0)
    ≡ 34 ∷ 34 ∷ 10 ∷ 34 ∷ 34 ∷ 10 ∷ 34 ∷ 34 ∷ 10 ∷ 34 ∷ 34 ∷ 10 ∷ 97 ∷ 10 ∷ []
unfolding escaped fields_text is_blank
fifth_row = saves fifth tt 0 _ refl

-- texts with a quotation mark, a comma or a line end stand in quotation marks
abbrev quoted : List TextInCell
quoted = text 0 0 0 (97 ∷ 34 ∷ 98 ∷ []) ∷ text 0 0 1 (codes "a,b") ∷ text 0 0 2 (97 ∷ 10 ∷ 98 ∷ []) ∷ []

quotation_marks : saved_text (saved_rows (from_sorted {R = cell_cmp} quoted) 0)
    ≡ 34 ∷ 97 ∷ 34 ∷ 34 ∷ 98 ∷ 34 ∷ 44 ∷ 34 ∷ 97 ∷ 44 ∷ 98 ∷ 34 ∷ 44 ∷ 34 ∷ 97 ∷ 10 ∷ 98 ∷ 34 ∷ 10 ∷ []
unfolding escaped fields_text is_blank
quotation_marks = saves quoted tt 0 _ refl
