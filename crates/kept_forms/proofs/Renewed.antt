-- The table at a place, as it is read there, and what is true of the list where one is put.
use Rattle.std.specs.Prelude.{◌==◌, slice_get, slice_set}
use Rattle.std.proofs.Common.{◌≡◌, ◌<◌, ◌≤◌, ℕ, Bool, List, [], length, get_or, Some, refl, sym, ap, ◌∙◌, subst, arith}
use Rattle.std.specs.List.{IsDistinct}
use Rattle.recalculation.specs.Entries.{Book}
use Rattle.extract_incr.specs.FromExtract.{no_forms}
use Rattle.extract_incr.specs.Keeping.{AreKept, GrowsTo}
use Rattle.kept_tables.specs.Settled.{Parts, sheets_of, with_table}
use Rattle.kept_tables.specs.Tables.{MOST_TABLES, dropped_for, has_sheet, is_for_once, kept_with}
use Rattle.kept_tables.proofs.Kept.{tables_are_few, tables_are_one_each}
use Rattle.kept_tables.proofs.PutTables.{put_sheets}
use Rattle.kept_forms.specs.Inner.{Goes, IsBegun}
use Rattle.kept_forms.specs.Tables.{AreTables, SheetKept, all_forms, forms_in, parts_of, sheets_in}
use Rattle.kept_forms.proofs.Begun.{begun_anew, begun_same}
use Rattle.kept_forms.proofs.Placed.{Apart, at_place, none_apart, put_back, sheets_of_forms, sheets_stay}

-- no table is one too many
pub no_tables : AreTables []
no_tables = record { few = omega arith; one_each = none_apart }

-- ---- the sheets of a list say whether its tables may stand there
pub with_sheets : (before after : List SheetKept) → sheets_in after ≡ sheets_in before → AreTables before → AreTables after
with_sheets before after e h = record { few = subst (λ s. length s ≤ MOST_TABLES) (sym e) h.few; one_each = subst (IsDistinct (λ s t. s == t)) (sym e) h.one_each }

-- where a table has its place
pub begun_tables : (searching : ℕ → Bool) (sheet : ℕ) (parts : Parts) (before after : List SheetKept) (place : ℕ) → IsBegun searching sheet parts before after place → AreTables before → AreTables after
begun_tables searching sheet parts before after place b h =
    let own : ℕ = b.table.sheet in
    let e : all_forms after ≡ with_table searching (all_forms before) (forms_in b.table) = ap all_forms (sym (put_back after place b.table b.there)) ∙ b.put b.table b.own in
    let s : sheets_in after ≡ kept_with searching (sheets_of (all_forms before)) own =
    sym (sheets_of_forms after)
    ∙ ap sheets_of e
    ∙ put_sheets (forms_in b.table) (all_forms before) (has_sheet (sheets_of (all_forms before)) own) (is_for_once searching (sheets_of (all_forms before)) own)
    (dropped_for searching (sheets_of (all_forms before)) own) in
    let k : sheets_in after ≡ kept_with searching (sheets_in before) own = s ∙ ap (λ x. kept_with searching x own) (sheets_of_forms before) in
    record {
      few = subst (λ x. length x ≤ MOST_TABLES) (sym k) (tables_are_few searching (sheets_in before) own h.few);
      one_each = subst (IsDistinct (λ s t. s == t)) (sym k) (tables_are_one_each searching (sheets_in before) own h.one_each);
    }

-- ---- a table that is read
module _ (tables : List SheetKept) (place : ℕ) (was : SheetKept) (apart : Apart tables) (within : place < length tables) (read : was ≡ get_or tables place was) (t : SheetKept) (at : slice_get tables place ≡ Some t) where
  is_was : was ≡ t
  is_was = let e : Some was ≡ Some t = sym (at_place tables place was within read) ∙ at in cc

  -- it is for these decision cells and sides
  pub renewed_same : (searching : ℕ → Bool) (parts : Parts) → (was.kept.decisions ≡ parts.decisions) × (was.kept.sides ≡ parts.sides) → IsBegun searching t.sheet parts tables tables place
  renewed_same searching parts e =
      let given : parts_of was.kept ≡ parts = (λ i. record { decisions = e.0 i; sides = e.1 i }) in
      begun_same searching tables tables place t apart at parts (subst (λ (t : SheetKept). parts_of t.kept ≡ parts) is_was given) (λ i. tables)

  -- or for others
  pub renewed_anew : (searching : ℕ → Bool) (parts : Parts) (table : SheetKept) (after : List SheetKept) → ¬ ((was.kept.decisions ≡ parts.decisions) × (was.kept.sides ≡ parts.sides)) → table.sheet ≡ was.sheet → parts_of table.kept ≡ parts → table.kept.table ≡ no_forms
      → after ≡ slice_set tables place table → IsBegun searching t.sheet parts tables after place
  renewed_anew searching parts table after other own given none e =
      begun_anew searching tables after place t apart at parts table
      (λ p.
      let q : parts_of was.kept ≡ parts = ap (λ (t : SheetKept). parts_of t.kept) is_was ∙ p in
      other (ap (λ (p : Parts). p.decisions) q, ap (λ (p : Parts). p.sides) q))
      (own ∙ ap (λ (t : SheetKept). t.sheet) is_was) given none e

-- the list with another table of the same sheet
pub put_tables : (tables : List SheetKept) (place : ℕ) (was table : SheetKept) → AreTables tables → place < length tables → was ≡ get_or tables place was → table.sheet ≡ was.sheet → AreTables (slice_set tables place table)
put_tables tables place was table h within read own = with_sheets tables (slice_set tables place table) (sheets_stay tables place was table (at_place tables place was within read) own) h

-- ---- a table that is changed where it stands
module _ (tables value : List SheetKept) (place : ℕ) (was : SheetKept) where
  pub goes_at : (book : Book) → (now : SheetKept) → tables ≡ value → place < length value → was ≡ get_or tables place was → now.sheet ≡ was.sheet → AreKept book now.kept → GrowsTo was.kept now.kept → Goes book place value (slice_set tables place now)
  goes_at book now e within read own kept grown =
      let there : slice_get tables place ≡ Some was = at_place tables place was (subst (λ (xs : List SheetKept). place < length xs) (sym e) within) read in
      subst (λ (xs : List SheetKept). Goes book place xs (slice_set tables place now)) e (record { was = was; there = there; now = now; put = refl; own = own; kept = kept; grown = grown })

  pub read_is : (t : SheetKept) → tables ≡ value → place < length value → was ≡ get_or tables place was → slice_get value place ≡ Some t → was ≡ t
  read_is t e within read at =
      let there : slice_get tables place ≡ Some was = at_place tables place was (subst (λ (xs : List SheetKept). place < length xs) (sym e) within) read in
      let q : Some was ≡ Some t = sym there ∙ ap (λ xs. slice_get xs place) e ∙ at in
      cc
