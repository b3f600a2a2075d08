-- The place of a sheet's own table.
use Rattle.std.specs.Prelude.{◌&&◌, not, is_none, map, nat_lt, slice_get, slice_set, Contains}
use Rattle.std.proofs.Common.{◌≡◌, inl, inr, ℕ, suc, Bool, true, false, if◌then◌else◌, List, [], ◌∷◌, ◌++◌, length, drop, take, Option, Some, None, refl, sym, ap, ap₂, ◌∙◌}
use Rattle.std.proofs.lemmas.List.{map_push, set-set, set_at}
use Rattle.extract_incr.specs.FromExtract.{no_forms}
use Rattle.kept_tables.specs.Settled.{Parts, SheetForms, in_place_of, sheets_of, with_table, without_table}
use Rattle.kept_tables.specs.Tables.{MOST_TABLES, dropped_for, first_idle, has_sheet, is_for_once}
use Rattle.kept_tables.proofs.PutTables as put
use Rattle.kept_forms.specs.Inner.{IsBegun}
use Rattle.kept_forms.specs.Tables.{SheetKept, all_forms, forms_in, parts_of, sheets_in}
use Rattle.kept_forms.proofs.Placed.{Apart, among, at_end, at_put, inside, only_own, out_before_last, put_at, sheet_there, sheets_of_forms, without_at}

-- the tables with one that is put, by what holds of them
abbrev pub with_by : SheetForms → List SheetForms → Bool → Bool → Option ℕ → List SheetForms
with_by t tables has once dropped = if has then map (in_place_of t) tables else if once then tables else without_table dropped tables ++ t ∷ []

-- by what holds of the sheets of a list
pub with_is : (searching : ℕ → Bool) (tables : List SheetKept) (t : SheetForms) (sheet : ℕ) (has once : Bool) (dropped : Option ℕ) → t.sheet ≡ sheet → has_sheet (sheets_in tables) sheet ≡ has → is_for_once searching (sheets_in tables) sheet ≡ once
    → dropped_for searching (sheets_in tables) sheet ≡ dropped → with_table searching (all_forms tables) t ≡ with_by t (all_forms tables) has once dropped
with_is searching tables t sheet has once dropped own h o d =
    let s : sheets_of (all_forms tables) ≡ sheets_in tables = sheets_of_forms tables in
    λ i. with_by t (all_forms tables) ((ap₂ (λ x y. has_sheet x y) s own ∙ h) i) ((ap₂ (λ x y. is_for_once searching x y) s own ∙ o) i) ((ap₂ (λ x y. dropped_for searching x y) s own ∙ d) i)

-- ---- a sheet that has a table
module _ (searching : ℕ → Bool) (before after : List SheetKept) (place : ℕ) (was : SheetKept) (apart : Apart before) (there : slice_get before place ≡ Some was) where
  has : has_sheet (sheets_in before) was.sheet ≡ true
  has = sheet_there before place was there

  -- the tables with another one of the sheet
  replaced : (t : SheetKept) → t.sheet ≡ was.sheet → all_forms (slice_set before place t) ≡ with_table searching (all_forms before) (forms_in t)
  replaced t own =
      put_at before place was t apart there (sym own)
      ∙ sym (with_is searching before (forms_in t) was.sheet true (is_for_once searching (sheets_in before) was.sheet) (dropped_for searching (sheets_in before) was.sheet) own has refl refl)

  -- it is for the same decision cells and sides
  pub begun_same : (parts : Parts) → parts_of was.kept ≡ parts → after ≡ before → IsBegun searching was.sheet parts before after place
  begun_same parts given e = record {
    table = was;
    there = ap (λ tables. slice_get tables place) e ∙ there;
    own = refl;
    given = given;
    was = inl (among before place was there);
    same = λ u c own p. only_own before place was u apart there c own;
    put = λ t own. ap (λ tables. all_forms (slice_set tables place t)) e ∙ replaced t own;
  }

  -- or for others
  pub begun_anew : (parts : Parts) (table : SheetKept) → ¬ (parts_of was.kept ≡ parts) → table.sheet ≡ was.sheet → parts_of table.kept ≡ parts → table.kept.table ≡ no_forms → after ≡ slice_set before place table
      → IsBegun searching was.sheet parts before after place
  begun_anew parts table other own given none e = record {
    table = table;
    there = ap (λ tables. slice_get tables place) e ∙ at_put before place table (inside before place was there);
    own = own;
    given = given;
    was = inr none;
    same = λ u c same p. absurd (other (sym (ap (λ (u : SheetForms). u.parts) (only_own before place was u apart there c same)) ∙ p));
    put = λ t own. ap (λ tables. all_forms (slice_set tables place t)) e ∙ ap all_forms (set-set before place table t) ∙ replaced t own;
  }

-- ---- a further sheet
module _ (searching : ℕ → Bool) (before : List SheetKept) (table : SheetKept) (new : has_sheet (sheets_in before) table.sheet ≡ false) (kept : is_for_once searching (sheets_in before) table.sheet ≡ false) (none : table.kept.table ≡ no_forms) where
  -- no table is one of the sheet
  no_own : (u : SheetForms) → Contains (all_forms before) u → ¬ (u.sheet ≡ table.sheet)
  no_own u c own =
      let h : has_sheet (sheets_in before) table.sheet ≡ true = ap₂ (λ x y. has_sheet x y) (sym (sheets_of_forms before)) (sym own) ∙ put.sheet_there u (all_forms before) u c in
      cc

  begun_last : (base : List SheetKept) (dropped : Option ℕ) → dropped_for searching (sheets_in before) table.sheet ≡ dropped → all_forms base ≡ without_table dropped (all_forms before)
      → (after : List SheetKept) (place : ℕ) → after ≡ base ++ table ∷ [] → length base ≡ place → IsBegun searching table.sheet (parts_of table.kept) before after place
  begun_last base dropped d b after place e l = record {
    table = table;
    there = ap₂ (λ tables i. slice_get tables i) e (sym l) ∙ at_end base table;
    own = refl;
    given = refl;
    was = inr none;
    same = λ u c own p. absurd (no_own u c own);
    put = λ t own.
        ap (λ tables. all_forms (slice_set tables place t)) e
        ∙ ap all_forms (set_at base table [] t place l)
        ∙ map_push forms_in base t
        ∙ ap (λ us. us ++ forms_in t ∷ []) b
        ∙ sym (with_is searching before (forms_in t) table.sheet false false dropped own new kept d);
  }

  -- where there is room nothing is dropped
  none_dropped : nat_lt (length (sheets_in before)) MOST_TABLES ≡ true → dropped_for searching (sheets_in before) table.sheet ≡ None
  none_dropped room =
      (λ i. if not (new i) && not (room i) then first_idle searching (sheets_in before) else None)

  pub begun_in_room : nat_lt (length (sheets_in before)) MOST_TABLES ≡ true → (after : List SheetKept) → after ≡ before ++ table ∷ [] → IsBegun searching table.sheet (parts_of table.kept) before after (length before)
  begun_in_room room after e = begun_last before None (none_dropped room) refl after (length before) e refl

  -- else the first one is whose sheet has no open search
  one_dropped : (idle : Option ℕ) → nat_lt (length (sheets_in before)) MOST_TABLES ≡ false → first_idle searching (sheets_in before) ≡ idle → dropped_for searching (sheets_in before) table.sheet ≡ idle
  one_dropped idle full first =
      (λ i. if not (new i) && not (full i) then first i else None)

  pub begun_in_place : nat_lt (length (sheets_in before)) MOST_TABLES ≡ false → Apart before → (i : ℕ) (was : SheetKept) → slice_get before i ≡ Some was → first_idle searching (sheets_in before) ≡ Some was.sheet
      → (after : List SheetKept) → after ≡ take i (before ++ table ∷ []) ++ drop (suc i) (before ++ table ∷ []) → (place : ℕ) → length (take i before ++ drop (suc i) before) ≡ place → IsBegun searching table.sheet (parts_of table.kept) before after place
  begun_in_place full apart i was there first after e place l =
      begun_last (take i before ++ drop (suc i) before) (Some was.sheet) (one_dropped (Some was.sheet) full first) (without_at before i was apart there) after place
      (e ∙ out_before_last before table i (inside before i was there)) l

  -- one is
  pub some_idle : nat_lt (length (sheets_in before)) MOST_TABLES ≡ false → ¬ (first_idle searching (sheets_in before) ≡ None)
  some_idle full first =
      let o : is_for_once searching (sheets_in before) table.sheet ≡ true = (λ i. (not (new i) && not (full i)) && is_none (first i)) in
      cc
