-- Whether forms are made for the command alone.
use Rattle.std.specs.Prelude.{◌&&◌, not, is_none, nat_lt, slice_get}
use Rattle.std.proofs.Common.{◌≡◌, ◌<◌, ℕ, Bool, true, false, List, length, get_or, Some, sym, ap, ◌∙◌}
use Rattle.kept_tables.specs.Tables.{MOST_TABLES, first_idle, has_sheet, is_for_once}
use Rattle.kept_forms.specs.Tables.{SheetKept, kept_of, sheets_in}
use Rattle.kept_forms.proofs.Placed.{Apart, at_place, own_found, sheet_there}

module _ (searching : ℕ → Bool) (tables : List SheetKept) (sheet : ℕ) where
  -- not where the sheet has a table
  pub once_own : (place : ℕ) → (t : SheetKept) × (slice_get tables place ≡ Some t) × (t.sheet ≡ sheet) → false ≡ is_for_once searching (sheets_in tables) sheet
  once_own place f =
      let h : has_sheet (sheets_in tables) sheet ≡ true = ap (has_sheet (sheets_in tables)) (sym f.2) ∙ sheet_there tables place f.0 f.1 in
      (λ i. (not (sym h i) && not (nat_lt (length (sheets_in tables)) MOST_TABLES)) && is_none (first_idle searching (sheets_in tables)))

  -- else where there is no place for one
  pub once_full : (r : Bool) → has_sheet (sheets_in tables) sheet ≡ false → r ≡ (not (nat_lt (length (sheets_in tables)) MOST_TABLES) && is_none (first_idle searching (sheets_in tables)))
      → r ≡ is_for_once searching (sheets_in tables) sheet
  once_full r n e =
      let o : (not (nat_lt (length (sheets_in tables)) MOST_TABLES) && is_none (first_idle searching (sheets_in tables))) ≡ is_for_once searching (sheets_in tables) sheet =
      (λ i. (not (sym n i) && not (nat_lt (length (sheets_in tables)) MOST_TABLES)) && is_none (first_idle searching (sheets_in tables))) in
      e ∙ o

-- the table that is read at the place of a sheet's own is what is kept of it
pub read_found : (tables : List SheetKept) (sheet place : ℕ) (was : SheetKept) → Apart tables → place < length tables → was ≡ get_or tables place was → (t : SheetKept) × (slice_get tables place ≡ Some t) × (t.sheet ≡ sheet)
    → kept_of tables sheet ≡ Some was.kept
read_found tables sheet place was apart within read f =
    let e : Some was ≡ Some f.0 = sym (at_place tables place was within read) ∙ f.1 in
    let q : was ≡ f.0 = cc in
    own_found tables place was sheet apart (at_place tables place was within read) (ap (λ (t : SheetKept). t.sheet) q ∙ f.2)
