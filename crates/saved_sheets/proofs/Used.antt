-- The rows and the columns of a sheet that reach to its texts.
use Rattle.std.proofs.Common.{◌≡◌, ◌<◌, ◌≤◌, ℕ, zero, suc, Bool, true, false, ◌&&◌, ◌==◌, List, [], ◌∷◌, get_or, length, Option, Some, None, refl, sym, ap, subst, ◌∙◌, arith}
use Rattle.std.specs.FinMap.{contains_key, entries, get, get-entries}
use Rattle.std.specs.Prelude.{is_some}
use Rattle.std.proofs.lemmas.Bool.{eqb-true, eq-eqb}
use Rattle.std.proofs.lemmas.Grind.{same_number_lists}
use Rattle.std.proofs.lemmas.List.FromFn.{get_or-map-range_with_len, length-map-range_with_len}
use Rattle.cell_refs.specs.declared.cell.Cell.{Cell}
use Rattle.cell_refs.specs.declared.limits.TheConstants.{ROWS}
use Rattle.recalculation.specs.Entries.{Contents}
use Rattle.cell_refs.specs.Listed.{IsListed}
use Rattle.workbook.specs.Listed.{TextsAreListed}
use Rattle.workbook.specs.State.{State}
use Rattle.saved_sheets.specs.Saving.{columns_used, rows_used}
use Rattle.saved_sheets.specs.Widths.{used_widths}
use Rattle.saved_sheets.proofs.Greatest.{all_within, is_within}

-- some cells of a sheet
abbrev pub IsOn : Contents → ℕ → Cell → Type 0
IsOn contents sheet cell = (contains_key contents cell ≡ true) × (cell.sheet.0 ≡ sheet)

both : (p q : Bool) → p ≡ true → q ≡ true → (p && q) ≡ true
both p q s t = ap (λ x. x && q) s ∙ t

first_true : (p q : Bool) → (p && q) ≡ true → p ≡ true
first_true true q h = refl
first_true false q h = h

second_true : (p q : Bool) → (p && q) ≡ true → q ≡ true
second_true true q h = h
second_true false q h = cc

module _ (contents : Contents) (sheet : ℕ) where
  -- a text lies above the number of rows used, and before the number of columns used of its row
  pub row_is_used : (q : Cell) → IsOn contents sheet q → q.row < rows_used contents sheet
  row_is_used q on =
      let within = is_within (λ (c : Cell). c.sheet.0 == sheet) (λ (c : Cell). suc c.row) (entries contents) q (eq-eqb q.sheet.0 sheet on.1) (sym (ap is_some (get-entries contents q)) ∙ on.0) in
      omega (arith, within)

  pub column_is_used : (q : Cell) → IsOn contents sheet q → q.col < columns_used contents sheet q.row
  column_is_used q on =
      let within = is_within (λ (c : Cell). (c.sheet.0 == sheet) && (c.row == q.row)) (λ (c : Cell). suc c.col) (entries contents) q
      (both (q.sheet.0 == sheet) (q.row == q.row) (eq-eqb q.sheet.0 sheet on.1) (eq-eqb q.row q.row refl)) (sym (ap is_some (get-entries contents q)) ∙ on.0) in
      omega (arith, within)

  -- no more rows and columns are used than the texts reach to
  pub rows_within : (top : ℕ) → ((q : Cell) → IsOn contents sheet q → q.row < top) → rows_used contents sheet ≤ top
  rows_within top each = all_within (λ (c : Cell). c.sheet.0 == sheet) (λ (c : Cell). suc c.row) top (entries contents)
      (λ q passes there. let lt : q.row < top = each q (ap is_some (get-entries contents q) ∙ there, eqb-true q.sheet.0 sheet passes) in omega (arith, lt))

  pub columns_within : (row top : ℕ) → ((q : Cell) → IsOn contents sheet q → q.row ≡ row → q.col < top) → columns_used contents sheet row ≤ top
  columns_within row top each = all_within (λ (c : Cell). (c.sheet.0 == sheet) && (c.row == row)) (λ (c : Cell). suc c.col) top (entries contents)
      (λ q passes there.
      let on = eqb-true q.sheet.0 sheet (first_true (q.sheet.0 == sheet) (q.row == row) passes) in
      let at = eqb-true q.row row (second_true (q.sheet.0 == sheet) (q.row == row) passes) in
      let lt : q.col < top = each q (ap is_some (get-entries contents q) ∙ there, on) at in
      omega (arith, lt))

some_of : (o : Option (List ℕ)) → is_some o ≡ true → (text : List ℕ) × (o ≡ Some text)
some_of None h = cc
some_of (Some text) h = (text, refl)

-- ---- where all texts are listed
pub is_listed : (book : State) → TextsAreListed book → (q : Cell) → contains_key book.contents q ≡ true → IsListed book.sheets q
is_listed book listed q there = let text = some_of (get book.contents q) there in listed q text.0 text.1

pub few_rows : (book : State) (sheet : ℕ) → TextsAreListed book → rows_used book.contents sheet ≤ ROWS
few_rows book sheet listed = rows_within book.contents sheet ROWS (λ q on. (is_listed book listed q on.0).row)

pub few_widths : (book : State) (sheet : ℕ) → TextsAreListed book → (widths : List ℕ) → widths ≡ used_widths book.contents sheet → length widths ≤ ROWS
few_widths book sheet listed widths are =
    let rows = ap length are ∙ length-map-range_with_len (columns_used book.contents sheet) 0 (rows_used book.contents sheet) in
    let few = few_rows book sheet listed in
    omega (arith, rows, few)

pub width_at : (contents : Contents) (sheet : ℕ) (widths : List ℕ) → widths ≡ used_widths contents sheet → (row d : ℕ) → row < length widths
    → get_or widths row d ≡ columns_used contents sheet row
width_at contents sheet widths are row d lt =
    let rows = ap length are ∙ length-map-range_with_len (columns_used contents sheet) 0 (rows_used contents sheet) in
    ap (λ (ws : List ℕ). get_or ws row d) are ∙ get_or-map-range_with_len (columns_used contents sheet) 0 (rows_used contents sheet) row row d (omega (arith, lt, rows)) (omega arith)

-- ---- widths that reach to some cells, and no further
pub record AreWidthsOf (These : Cell → Type 0) (widths : List ℕ) : Type 0 where
  pub reach : (q : Cell) → These q → q.col < get_or widths q.row 0
  pub no_wider : (row n : ℕ) → n < get_or widths row 0 → (q : Cell) × (These q × ((q.row ≡ row) × (n ≤ q.col)))
  pub no_more : (row : ℕ) → row < length widths → (q : Cell) × (These q × (row ≤ q.row))

missing : (xs : List ℕ) (i : ℕ) → length xs ≤ i → get_or xs i 0 ≡ 0
missing [] i h = refl
missing (x ∷ xs) zero h = absurd (omega (arith, h))
missing (x ∷ xs) (suc i) h = missing xs i (omega (arith, h))

pub is_row : (xs : List ℕ) (i n : ℕ) → n < get_or xs i 0 → i < length xs
is_row [] i n h = absurd (omega (arith, h))
is_row (x ∷ xs) zero n h = omega arith
is_row (x ∷ xs) (suc i) n h = let below = is_row xs i n h in omega (arith, below)

module _ (contents : Contents) (sheet : ℕ) (widths : List ℕ) (w : AreWidthsOf (IsOn contents sheet) widths) where
  rows_least : length widths ≤ rows_used contents sheet
  rows_least = by (length widths) refl
    where
      by : (n : ℕ) → length widths ≡ n → n ≤ rows_used contents sheet
      by zero e = omega arith
      by (suc n) e =
          let last = w.no_more n (omega (arith, e)) in
          let used = row_is_used contents sheet last.0 last.1.0 in
          let behind = last.1.1 in
          omega (arith, used, behind)

  rows_are : length widths ≡ rows_used contents sheet
  rows_are =
      let most = rows_within contents sheet (length widths) (λ q on. is_row widths q.row q.col (w.reach q on)) in
      let least = rows_least in
      omega (arith, most, least)

  width_least : (row : ℕ) → get_or widths row 0 ≤ columns_used contents sheet row
  width_least row = by (get_or widths row 0) refl
    where
      by : (n : ℕ) → get_or widths row 0 ≡ n → n ≤ columns_used contents sheet row
      by zero e = omega arith
      by (suc n) e =
          let last = w.no_wider row n (omega (arith, e)) in
          let used : last.0.col < columns_used contents sheet row = subst (λ r. last.0.col < columns_used contents sheet r) last.1.1.0 (column_is_used contents sheet last.0 last.1.0) in
          let behind = last.1.1.1 in
          omega (arith, used, behind)

  width_is : (row : ℕ) → get_or widths row 0 ≡ columns_used contents sheet row
  width_is row =
      let most = columns_within contents sheet row (get_or widths row 0) (λ q on at. subst (λ r. q.col < get_or widths r 0) at (w.reach q on)) in
      let least = width_least row in
      omega (arith, most, least)

  pub widths_are : widths ≡ used_widths contents sheet
  widths_are = same_number_lists widths (used_widths contents sheet)
      (rows_are ∙ sym (length-map-range_with_len (columns_used contents sheet) 0 (rows_used contents sheet)))
      (λ k lt. width_is k ∙ sym (get_or-map-range_with_len (columns_used contents sheet) 0 (rows_used contents sheet) k k 0 (let n = rows_are in omega (arith, lt, n)) (omega arith)))
