-- What stands after the forms of a sheet were settled.
use Rattle.std.specs.Prelude.{◌&&◌, not, filter, slice_get, Contains, Result, Ok, Err, OnErr}
use Rattle.std.proofs.Common.{◌≡◌, ◌≤◌, ◌+◌, ◌-◌, inl, inr, ℕ, suc, Bool, true, false, cond, List, [], ◌∷◌, length, Some, None, refl, sym, ap, ap₂, ◌∙◌, subst, arith}
use Rattle.std.specs.FinMap.{get-empty}
use Rattle.std.specs.Ordering.{nat_cmp}
use Rattle.cell_refs.specs.Cells.{cell_cmp}
use Rattle.recalculation.specs.Entries.{Book}
use Rattle.recalculation.proofs.Lists.{first_true}
use Rattle.cell_refs.specs.declared.place.Place.{Place}
use Rattle.cell_refs.specs.declared.place.Place.TheVariants as place
use Rattle.extract_incr.specs.FromKeptMarks.{AreForms}
use Rattle.extract_incr.specs.FromExtract.{form_at, no_forms}
use Rattle.extract_incr.specs.Keeping.{AllAreKept, AreKept, Kept, count_to_make}
use Rattle.kept_tables.specs.Settled.{AreRight, Parts, SheetForms, decisions_of, expressions_of, sheets_of, with_table}
use Rattle.kept_tables.specs.Steps.{MakesFew, counted_entries, entries_of, is_circular_place, is_missing, stale_count}
use Rattle.kept_tables.specs.Tables.{dropped_for, has_no_place, has_sheet, is_for_once}
use Rattle.kept_tables.proofs.PutTables as put
use Rattle.kept_forms.specs.Inner.{Goes, IsBegun}
use Rattle.kept_forms.specs.Settling.{Begins, GoesOn, Settles, Stops}
use Rattle.kept_forms.specs.Tables.{SheetKept, all_forms, forms_in, parts_of, sheets_in}
use Rattle.kept_forms.proofs.Begun.{with_is}
use Rattle.kept_forms.proofs.Placed.{Apart, at_put, inside, own_found, sheets_of_forms}

-- what holds, holds where a call failed
pub on_err : {A E P : Type 0} (r : Result A E) → P → OnErr r P
on_err (Ok a) p = tt
on_err (Err e) p = p

-- ---- forms of a table, by places
module _ (book : Book) (k : Kept) where
  pub are_forms : AreKept book k → AreForms book (decisions_of (parts_of k)) (expressions_of (parts_of k)) (form_at k.table)
  are_forms kept (place.Cell a) f at = kept (place.Cell a) f at
  are_forms kept (place.Side n) f at = kept (place.Side n) f at

  pub are_kept : AreForms book (decisions_of (parts_of k)) (expressions_of (parts_of k)) (form_at k.table) → AreKept book k
  are_kept forms (place.Cell a) f at = forms (place.Cell a) f at
  are_kept forms (place.Side n) f at = forms (place.Side n) f at

-- a table without forms has none that is wrong
pub none_kept : (book : Book) (k : Kept) → k.table ≡ no_forms → AreKept book k
none_kept book k e (place.Cell a) f at = let h : None ≡ Some f = sym (get-empty cell_cmp a) ∙ sym (ap (λ t. form_at t (place.Cell a)) e) ∙ at in absurd cc
none_kept book k e (place.Side n) f at = let h : None ≡ Some f = sym (get-empty nat_cmp n) ∙ sym (ap (λ t. form_at t (place.Side n)) e) ∙ at in absurd cc

-- no form was made
pub none_made : (book : Book) (tables : List SheetForms) (sheet : ℕ) (parts : Parts) (n : ℕ) → MakesFew book tables sheet parts (n - n)
none_made book tables sheet parts n = record { anew = omega arith; kept = λ u c own p. omega arith }

-- ---- how many forms are made
no_more_pass : (f : Place → Bool) (xs : List Place) → length (filter f xs) ≤ length xs
no_more_pass f [] = omega arith
no_more_pass f (p ∷ xs) =
    let rest = no_more_pass f xs in
    elim (f p) as (λ b. length (cond b (p ∷ filter f xs) (filter f xs)) ≤ suc (length xs)) [ true ↦ omega (arith, rest) | false ↦ omega (arith, rest) ]

-- those that pass two tests are those of the first's that pass the second
pass_both : (f g : Place → Bool) (xs : List Place) → filter (λ p. f p && g p) xs ≡ filter g (filter f xs)
pass_both f g [] = refl
pass_both f g (p ∷ xs) =
    let rest = pass_both f g xs in
    elim (f p) as (λ b. cond (b && g p) (p ∷ filter (λ p. f p && g p) xs) (filter (λ p. f p && g p) xs) ≡ filter g (cond b (p ∷ filter f xs) (filter f xs))) [
      | true ↦ ap (λ ps. cond (g p) (p ∷ ps) ps) rest
      | false ↦ rest
    ]

-- those are made that are missing
missing_made : (book : Book) (k : Kept) → count_to_make book k ≡ stale_count book (parts_of k) (form_at k.table)
missing_made book k = ap length (pass_both (λ p. not (is_circular_place book (parts_of k) p)) (is_missing (form_at k.table)) (entries_of book (parts_of k)))

module _ (book : Book) (tables : List SheetForms) (sheet : ℕ) (parts : Parts) (k : Kept) (given : parts_of k ≡ parts) (old now : ℕ) (bound : now ≤ old + count_to_make book k) where
  as_stale : count_to_make book k ≡ stale_count book parts (form_at k.table)
  as_stale = missing_made book k ∙ ap (λ p. stale_count book p (form_at k.table)) given

  anew : now - old ≤ length (counted_entries book parts)
  anew = let e = as_stale in let m = no_more_pass (is_missing (form_at k.table)) (counted_entries book parts) in omega (arith, e, m, bound)

  -- where forms of the sheet for these parts were kept they are those
  pub makes_few : ((u : SheetForms) → Contains tables u → u.sheet ≡ sheet → u.parts ≡ parts → u.kept ≡ form_at k.table) → MakesFew book tables sheet parts (now - old)
  makes_few same = record {
    anew = anew;
    kept = λ u c own p.
        let e : count_to_make book k ≡ stale_count book parts u.kept = as_stale ∙ ap (stale_count book parts) (sym (same u c own p)) in
        omega (arith, e, bound);
  }

-- ---- what is kept stays right where a table is put
pub put_right : (book : Book) (searching : ℕ → Bool) (tables : List SheetForms) (t : SheetForms) → AreRight book tables → AreForms book (decisions_of t.parts) (expressions_of t.parts) t.kept → AreRight book (with_table searching tables t)
put_right book searching tables t right own v i =
    elim (put.put_or_old t tables (has_sheet (sheets_of tables) t.sheet) (is_for_once searching (sheets_of tables) t.sheet) (dropped_for searching (sheets_of tables) t.sheet) v i)
    as (λ _. AreForms book (decisions_of v.parts) (expressions_of v.parts) v.kept) [
      | inl e ↦ subst (λ (u : SheetForms). AreForms book (decisions_of u.parts) (expressions_of u.parts) u.kept) (sym e) own
      | inr j ↦ right v j
    ]

-- ---- a table of the sheet's own
module _ (book : Book) (searching : ℕ → Bool) (sheet : ℕ) (parts : Parts) (before between after : List SheetKept) (place : ℕ) (right : AreRight book (all_forms before)) (begun : IsBegun searching sheet parts before between place) where
  -- what is in it is right
  pub kept_at : (t : SheetKept) → slice_get between place ≡ Some t → AreKept book t.kept
  kept_at t at =
      let e : Some begun.table ≡ Some t = sym begun.there ∙ at in
      let q : begun.table ≡ t = cc in
      subst (λ (t : SheetKept). AreKept book t.kept) q
      (elim begun.was as (λ _. AreKept book begun.table.kept) [ inl c ↦ are_kept book begun.table.kept (right (forms_in begun.table) c) | inr none ↦ none_kept book begun.table.kept none ])

  module _ (goes : Goes book place between after) where
    same : begun.table ≡ goes.was
    same = let e : Some begun.table ≡ Some goes.was = sym begun.there ∙ goes.there in cc

    own : goes.now.sheet ≡ sheet
    own = goes.own ∙ ap (λ (t : SheetKept). t.sheet) (sym same) ∙ begun.own

    given : parts_of goes.now.kept ≡ parts
    given =
        let e : parts_of goes.now.kept ≡ parts_of goes.was.kept = (λ i. record { decisions = goes.grown.decisions i; sides = goes.grown.sides i }) in
        e ∙ ap (λ (t : SheetKept). parts_of t.kept) (sym same) ∙ begun.given

    pub tables : all_forms after ≡ with_table searching (all_forms before) (forms_in goes.now)
    tables = ap all_forms goes.put ∙ begun.put goes.now own

    goes_on : GoesOn book (all_forms before) (forms_in goes.now)
    goes_on = record {
      right = are_forms book goes.now.kept goes.kept;
      grown = λ u c s p q f at.
          let e : u ≡ forms_in goes.was = begun.same u c (s ∙ own) (p ∙ given) ∙ ap forms_in same in
          goes.grown.kept q f (sym (ap (λ (u : SheetForms). u.kept q) e) ∙ at);
    }

    pub after_right : AreRight book (all_forms after)
    after_right = subst (AreRight book) (sym tables) (put_right book searching (all_forms before) (forms_in goes.now) right goes_on.right)

    pub begins : Begins book searching sheet parts before after
    begins = record { table = forms_in goes.now; own = own; given = given; grown = goes_on; tables = tables }

    pub stops : Stops book searching sheet parts before after
    stops = inr begins

    now_is : goes.now ≡ record { sheet = sheet; kept = goes.now.kept }
    now_is = (λ i. record { sheet = own i; kept = goes.now.kept })

    there : slice_get after place ≡ Some goes.now
    there = ap (λ tables. slice_get tables place) goes.put ∙ at_put between place goes.now (inside between place goes.was goes.there)

    pub settles : Apart after → ((t : SheetKept) → slice_get after place ≡ Some t → AllAreKept book t.kept) → is_for_once searching (sheets_in before) sheet ≡ false → Settles book searching sheet parts before after None
    settles apart full kept = record {
      forms = goes.now.kept;
      found = own_found after place goes.now sheet apart there own;
      given = given;
      full = full goes.now there;
      grown = subst (λ (t : SheetKept). GoesOn book (all_forms before) (forms_in t)) now_is goes_on;
      tables = tables ∙ ap (λ (t : SheetKept). with_table searching (all_forms before) (forms_in t)) now_is;
      alone = sym kept;
    }

  pub few : (old now : ℕ) → ((t : SheetKept) → slice_get between place ≡ Some t → now ≤ old + count_to_make book t.kept) → MakesFew book (all_forms before) sheet parts (now - old)
  few old now bound =
      makes_few book (all_forms before) sheet parts begun.table.kept begun.given old now (bound begun.table begun.there)
      (λ u c s p. ap (λ (u : SheetForms). u.kept) (begun.same u c s p))

-- ---- forms for the command alone
module _ (book : Book) (searching : ℕ → Bool) (sheet : ℕ) (parts : Parts) (before : List SheetKept) (once : is_for_once searching (sheets_in before) sheet ≡ true) where
  none_has : has_sheet (sheets_in before) sheet ≡ false
  none_has = no (has_sheet (sheets_in before) sheet) (first_true (not (has_sheet (sheets_in before) sheet)) _ (first_true (has_no_place (sheets_in before) sheet) _ once))
    where
      no : (b : Bool) → not b ≡ true → b ≡ false
      no true h = cc
      no false h = refl

  no_own : (u : SheetForms) → Contains (all_forms before) u → ¬ (u.sheet ≡ sheet)
  no_own u c own =
      let h : has_sheet (sheets_in before) sheet ≡ true = ap₂ (λ x y. has_sheet x y) (sym (sheets_of_forms before)) (sym own) ∙ put.sheet_there u (all_forms before) u c in
      let n = none_has in
      cc

  pub settles_once : (k : Kept) → parts_of k ≡ parts → AllAreKept book k → Settles book searching sheet parts before before (Some k)
  settles_once k given full = record {
    forms = k;
    found = refl;
    given = given;
    full = full;
    grown = record { right = are_forms book k full.forms; grown = λ u c own p q f at. absurd (no_own u c own) };
    tables =
        sym
        (with_is searching before (forms_in (record { sheet = sheet; kept = k })) sheet false true (dropped_for searching (sheets_in before) sheet) refl none_has once refl);
    alone = sym once;
  }

  pub few_once : (k : Kept) → parts_of k ≡ parts → (old now : ℕ) → now ≤ old + count_to_make book k → MakesFew book (all_forms before) sheet parts (now - old)
  few_once k given old now bound = makes_few book (all_forms before) sheet parts k given old now bound (λ u c own p. absurd (no_own u c own))
