-- A table of a further sheet is put last, and where there are eight the first one is dropped whose sheet has no open search.
use Rattle.std.specs.Prelude.{nat_lt, slice_get}
use Rattle.std.proofs.Common.{◌≡◌, ◌<◌, ◌≤◌, ◌-◌, ℕ, suc, Bool, true, false, List, [], ◌∷◌, ◌++◌, length, length-append, drop, take, Some, sym, ap, ◌∙◌, subst, arith}
use Rattle.std.proofs.lemmas.Bool.{lt-ltb, le-ltb}
use Rattle.std.proofs.lemmas.List.{length-drop, length-map, length-take-le}
use Rattle.extract_incr.specs.FromExtract.{no_forms}
use Rattle.kept_tables.specs.Tables.{MOST_TABLES, first_idle, has_sheet, is_for_once}
use Rattle.kept_forms.specs.Inner.{IsBegun}
use Rattle.kept_forms.specs.Tables.{SheetKept, parts_of, sheets_in}
use Rattle.kept_forms.proofs.Begun.{begun_in_place, begun_in_room}
use Rattle.kept_forms.proofs.Placed.{Apart, inside}

-- as many tables as sheets
count_is : (tables : List SheetKept) → length (sheets_in tables) ≡ length tables
count_is tables = length-map tables (λ (t : SheetKept). t.sheet)

is_room : (tables : List SheetKept) → length tables < MOST_TABLES → nat_lt (length (sheets_in tables)) MOST_TABLES ≡ true
is_room tables h = lt-ltb (length (sheets_in tables)) MOST_TABLES (let e = count_is tables in omega (arith, e, h))

no_room : (tables : List SheetKept) → MOST_TABLES ≤ length tables → nat_lt (length (sheets_in tables)) MOST_TABLES ≡ false
no_room tables h = le-ltb (length (sheets_in tables)) MOST_TABLES (let e = count_is tables in omega (arith, e, h))

-- one fewer
fewer : {X : Type 0} (xs : List X) (i : ℕ) → i < length xs → length (take i xs ++ drop (suc i) xs) ≡ length xs - 1
fewer xs i h =
    let t = length-take-le i xs (omega (arith, h)) in
    let d = length-drop (suc i) xs in
    let a = length-append (take i xs) (drop (suc i) xs) in
    omega (arith, t, d, a, h)

module _ (searching : ℕ → Bool) (tables before : List SheetKept) (table : SheetKept) (count : ℕ) (e : tables ≡ before) (l : count ≡ length tables) (new : has_sheet (sheets_in before) table.sheet ≡ false)
    (kept : is_for_once searching (sheets_in before) table.sheet ≡ false) (none : table.kept.table ≡ no_forms) where
  counted : count ≡ length before
  counted = l ∙ ap length e

  pub added_last : count < MOST_TABLES → (after : List SheetKept) → after ≡ tables ++ table ∷ [] → IsBegun searching table.sheet (parts_of table.kept) before after count
  added_last h after put =
      subst (IsBegun searching table.sheet (parts_of table.kept) before after) (sym counted)
      (begun_in_room searching before table new kept none (is_room before (omega (arith, h, counted))) after (put ∙ ap (λ ts. ts ++ table ∷ []) e))

  pub added_for_one : MOST_TABLES ≤ count → Apart tables → (place : ℕ) (was : SheetKept) → slice_get tables place ≡ Some was → first_idle searching (sheets_in tables) ≡ Some was.sheet
      → (pushed after : List SheetKept) → pushed ≡ tables ++ table ∷ [] → after ≡ take place pushed ++ drop (suc place) pushed → IsBegun searching table.sheet (parts_of table.kept) before after (count - 1)
  added_for_one h apart place was at first pushed after put out =
      let there : slice_get before place ≡ Some was = ap (λ ts. slice_get ts place) (sym e) ∙ at in
      let f = fewer before place (inside before place was there) in
      begun_in_place searching before table new kept none (no_room before (omega (arith, h, counted))) (subst Apart e apart) place was there
      (ap (λ ts. first_idle searching (sheets_in ts)) (sym e) ∙ first) after (out ∙ ap (λ ts. take place ts ++ drop (suc place) ts) (put ∙ ap (λ ts. ts ++ table ∷ []) e)) (count - 1)
      (f ∙ ap (λ n. n - 1) (sym counted))
