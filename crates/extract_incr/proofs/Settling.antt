-- Forms of stale places are kept one after the other.
use Rattle.std.proofs.Common.{◌≡◌, ◌<◌, ◌≤◌, ◌+◌, ◌-◌, ℕ, suc, Bool, true, false, cond, List, [], ◌∷◌, ◌++◌, Option, Some, None, refl, sym, ap, subst, ◌∙◌, length, take, get_or, arith, if◌then◌else◌}
use Rattle.std.specs.Prelude.{◌==◌, ◌&&◌, ◌||◌, not, nat_lt, is_some, map, filter, option_map, slice_get, IsSome}
use Rattle.std.specs.Cmp.{eq_by_cmp_equiv, nat_cmp_total}
use Rattle.std.specs.FinMap.{contains_key-keys, keys, len, nat_cmp-IsAntisymmetric}
use Rattle.std.specs.FinSet as set
use Rattle.std.specs.List.{find, list_any, position_or_len}
use Rattle.std.proofs.lemmas.List.{take_more}
use Rattle.std.proofs.lemmas.Bool.Decides.{nat_tests}
use Rattle.std.specs.Ordering.{eq_by_cmp, nat_cmp}
use Rattle.cell_refs.specs.Cells.{cell_cmp, is_same_cell}
use Rattle.cell_refs.specs.declared.cell.Cell.{Cell}
use Rattle.cell_refs.proofs.SameCells.{same_cells as equal_cells, same_itself}
use Rattle.cell_refs.proofs.Order.{cells_total, exact_cells}
use Rattle.formula_ast.specs.Tree.{Tree}
use Rattle.dep_table.specs.Order.{HasFree, IsOrder}
use Rattle.recalculation.specs.Entries.{Book, Entry, Constant, Formula, Malformed, entry}
use Rattle.recalculation.specs.Walks.{has_walk, is_circular, is_formula, refers, steps_to}
use Rattle.recalculation.proofs.Circles.{formula_text, found_text}
use Rattle.recalculation.proofs.Lists.{both}
use Rattle.workbook.specs.Contents.{tree_of as tree_of_entry}
use Rattle.cell_refs.specs.declared.place.Place.{Place}
use Rattle.cell_refs.specs.declared.place.Place.TheVariants as place
use Rattle.needed_forms.specs.FromFormExtraction.{CellForm}
use Rattle.needed_forms.specs.FromFormExtraction.{Circular}
use Rattle.needed_forms.specs.FromFormExtraction.{decision_or, entry_form, form_of, formula_form, numbered_in}
use Rattle.needed_forms.specs.FromFormExtraction.{forms_of, LooksFrom, refers_to_circle, side_form}
use Rattle.needed_forms.proofs.FromFormExtraction.{form_is}
use Rattle.needed_forms.proofs.FromFormExtraction.{looked_is_referred}
use Rattle.needed_forms.specs.FromExtract.{HasForms, IsTreeOf, is_in_circle, place_form}
use Rattle.needed_forms.specs.FromExtract.{Table, form_at, form_count, with_form}
use Rattle.needed_forms.specs.FromSheetProblems.{form_at as form_of_place}
use Rattle.needed_forms.specs.FromSheetProblems.{Sides, tree_of}
use Rattle.needed_forms.specs.FromNeededCells.{HasEntry}
use Rattle.extract_incr.specs.Keeping.{AllAreKept, AreKept, HaveOwnNumbers, IsStale, Kept, count_to_make, entries_of, is_circular_place, is_circular_side, is_missing, stale_count}
use Rattle.extract_incr.specs.Settling.{AreCircular, AreThere, Goes, IsThere, IsTreeIn, kept_in, leaf_in, left, unmade}
use Rattle.extract_incr.proofs.Counting.{alike, among_numbers, count_append, count_filter, count_map, equal_numbers, equal_of, filter_differ, filter_has, first_true, found_at, keys_differ, no_more_pass, none_of_all, none_of_those, numbers_differ, one_fewer, one_passes, passes_one, passing, put_apart, put_has, put_holds, put_keeps, put_length, second_true, there_is}

-- ---- options
pub none_of : {A : Type 0} (o : Option A) → is_some o ≡ false → o ≡ None
none_of None h = refl
none_of (Some a) h = absurd cc

some_of : {A : Type 0} (o : Option A) → is_some o ≡ true → (a : A) × (o ≡ Some a)
some_of None h = absurd cc
some_of (Some a) h = (a, refl)

pub none_got : {A B : Type 0} (f : A → B) (o : Option A) (at : Option B) → option_map f o ≡ at → is_some o ≡ false → is_some at ≡ false
none_got {B} f None at e h = ap (λ (p : Option B). is_some p) (sym e)
none_got f (Some a) at e h = absurd cc

not_false : (w : Bool) → not w ≡ true → w ≡ false
not_false true h = absurd cc
not_false false h = refl

pub the_same : {A : Type 0} (a b : A) → Some a ≡ Some b → a ≡ b
the_same {A} a b e = ap (λ (o : Option A). elim o as (λ _. A) [ Some c ↦ c | None ↦ a ]) e

-- ---- cells
same_cells : (a b : Cell) → eq_by_cmp cell_cmp a b ≡ true → a ≡ b
same_cells a b h = exact_cells a b (equal_of (cell_cmp a b) h)

itself : (a : Cell) → eq_by_cmp cell_cmp a a ≡ true
itself a = (eq_by_cmp_equiv cells_total).refl a

zero_below : (n : ℕ) → true ≡ nat_lt 0 (suc n)
zero_below n = grind (arith, nat_tests)

both_later : (m n : ℕ) → nat_lt m n ≡ nat_lt (1 + m) (suc n)
both_later m n = grind (arith, nat_tests)

module _ (book : Book) (adj : List Cell) (sides : Sides) where
  -- ---- how many places are stale
  abbrev has_form : Cell → Bool
  has_form a = is_formula (entry book a) && not (is_some (numbered_in adj a))

  -- of the places that pass a test those whose form is missing
  abbrev missing_of : (Place → Bool) → Table → Place → Bool
  missing_of counts table p = counts p && is_missing table p

  abbrev every : Place → Bool
  every p = true

  abbrev is_free : Place → Bool
  is_free p = not (is_circular_place book sides adj p)

  abbrev cells_missing : (Place → Bool) → Table → ℕ
  cells_missing counts table = passing (λ a. missing_of counts table (place.Cell a)) (filter has_form (keys book.texts))

  abbrev sides_missing : (Place → Bool) → Table → ℕ
  sides_missing counts table = passing (λ n. missing_of counts table (place.Side n)) (map (λ (s : ℕ × Tree). s.0) sides)

  abbrev all_missing : (Place → Bool) → Table → ℕ
  all_missing counts table = length (filter (missing_of counts table) (entries_of book (kept_in adj sides table)))

  count_parts : (counts : Place → Bool) (table : Table) → all_missing counts table ≡ cells_missing counts table + sides_missing counts table
  count_parts counts table =
      count_filter (missing_of counts table) (map (λ a. place.Cell a) (filter has_form (keys book.texts)) ++ map (λ (s : ℕ × Tree). place.Side s.0) sides)
      ∙ count_append (missing_of counts table) (map (λ a. place.Cell a) (filter has_form (keys book.texts))) (map (λ (s : ℕ × Tree). place.Side s.0) sides)
      ∙ (λ i. count_map (missing_of counts table) (λ a. place.Cell a) (filter has_form (keys book.texts)) i
      + (count_map (missing_of counts table) (λ (s : ℕ × Tree). place.Side s.0) sides ∙ sym (count_map (λ n. missing_of counts table (place.Side n)) (λ (s : ℕ × Tree). s.0) sides)) i)

  left_parts : (table : Table) → left book (kept_in adj sides table) ≡ cells_missing every table + sides_missing every table
  unfolding left
  left_parts table = count_parts every table

  -- a formula cell that isn't to be decided is one of the places
  cell_listed : (a : Cell) → HasEntry book sides adj (place.Cell a) → list_any (eq_by_cmp cell_cmp a) (filter has_form (keys book.texts)) ≡ true
  cell_listed a h =
      filter_has (eq_by_cmp cell_cmp) has_form same_cells a (λ i. h.0 i && not (is_some (h.1 i))) (keys book.texts)
      (sym (contains_key-keys book.texts a) ∙ formula_text book a h.0)

  -- so is a side
  pub side_found : (k : ℕ) → IsSome (tree_of sides k) → (i : ℕ) × (s : ℕ × Tree) × (slice_get sides i ≡ Some s) × (s.0 ≡ k)
  side_found k h = by (find (λ (s : ℕ × Tree). s.0 == k) sides) refl h
    where
      by : (o : Option (ℕ × Tree)) → find (λ (s : ℕ × Tree). s.0 == k) sides ≡ o → IsSome (option_map (λ (s : ℕ × Tree). s.1) o) → (i : ℕ) × (s : ℕ × Tree) × (slice_get sides i ≡ Some s) × (s.0 ≡ k)
      by None e h = absurd cc
      by (Some s) e h = let r = there_is k sides s e in (r.0, s, r.1, r.2)

  side_listed : (k : ℕ) → IsSome (tree_of sides k) → list_any (eq_by_cmp nat_cmp k) (map (λ (s : ℕ × Tree). s.0) sides) ≡ true
  side_listed k h = let r = side_found k h in among_numbers k r.0 sides r.1 r.2 r.3

  -- ---- a form more
  module _ (table : Table) (own : HaveOwnNumbers sides) where
    fewer_cells : (counts : Place → Bool) (a : Cell) (form : CellForm) → counts (place.Cell a) ≡ true → IsStale book (kept_in adj sides table) (place.Cell a)
        → cells_missing counts table ≡ cells_missing counts (with_form table (place.Cell a) form) + 1
    fewer_cells counts a form passes stale =
        one_fewer (eq_by_cmp cell_cmp) same_cells (λ b. missing_of counts table (place.Cell b)) (λ b. missing_of counts (with_form table (place.Cell a) form) (place.Cell b)) a
        (λ b e. ap (λ (o : Option CellForm). counts (place.Cell b) && not (is_some o)) (sym (put_apart cells_total exact_cells table.cells a form b e)))
        (λ i. passes i && not (is_some (stale.none i)))
        (λ i. passes i && not (is_some (put_has cells_total exact_cells table.cells a form i)))
        (filter has_form (keys book.texts))
        (filter_differ (eq_by_cmp cell_cmp) has_form (keys book.texts) (keys_differ book.texts))
        (cell_listed a stale.entry)

    fewer_sides : (counts : Place → Bool) (k : ℕ) (form : CellForm) → counts (place.Side k) ≡ true → IsStale book (kept_in adj sides table) (place.Side k)
        → sides_missing counts table ≡ sides_missing counts (with_form table (place.Side k) form) + 1
    fewer_sides counts k form passes stale =
        one_fewer (eq_by_cmp nat_cmp) equal_numbers (λ n. missing_of counts table (place.Side n)) (λ n. missing_of counts (with_form table (place.Side k) form) (place.Side n)) k
        (λ n e. ap (λ (o : Option CellForm). counts (place.Side n) && not (is_some o)) (sym (put_apart nat_cmp_total nat_cmp-IsAntisymmetric table.sides k form n e)))
        (λ i. passes i && not (is_some (stale.none i)))
        (λ i. passes i && not (is_some (put_has nat_cmp_total nat_cmp-IsAntisymmetric table.sides k form i)))
        (map (λ (s : ℕ × Tree). s.0) sides)
        (numbers_differ sides own)
        (side_listed k stale.entry)

    fewer_by : (m n k l : ℕ) → m ≡ k + l → n ≡ (k + 1) + l → n ≡ m + 1
    fewer_by m n k l e d = omega (arith, e, d)

    fewer_after : (m n k l : ℕ) → m ≡ k + l → n ≡ k + (l + 1) → n ≡ m + 1
    fewer_after m n k l e d = omega (arith, e, d)

    one_missing_less : (counts : Place → Bool) (p : Place) (form : CellForm) → counts p ≡ true → IsStale book (kept_in adj sides table) p → all_missing counts table ≡ all_missing counts (with_form table p form) + 1
    one_missing_less counts (place.Cell a) form passes stale =
        fewer_by _ _ (cells_missing counts (with_form table (place.Cell a) form)) (sides_missing counts table) (count_parts counts (with_form table (place.Cell a) form))
        (count_parts counts table ∙ ap (λ n. n + sides_missing counts table) (fewer_cells counts a form passes stale))
    one_missing_less counts (place.Side k) form passes stale =
        fewer_after _ _ (cells_missing counts table) (sides_missing counts (with_form table (place.Side k) form)) (count_parts counts (with_form table (place.Side k) form))
        (count_parts counts table ∙ ap (λ n. cells_missing counts table + n) (fewer_sides counts k form passes stale))

    one_less : (p : Place) (form : CellForm) → IsStale book (kept_in adj sides table) p → left book (kept_in adj sides table) ≡ left book (kept_in adj sides (with_form table p form)) + 1
    unfolding left
    one_less p form stale = one_missing_less every p form refl stale

    one_made : (p : Place) (form : CellForm) → is_circular_place book sides adj p ≡ false → IsStale book (kept_in adj sides table) p
        → unmade book (kept_in adj sides table) ≡ unmade book (kept_in adj sides (with_form table p form)) + 1
    unfolding unmade
    one_made p form free stale = one_missing_less is_free p form (ap not free) stale

    pub some_unmade : (p : Place) → is_circular_place book sides adj p ≡ false → IsStale book (kept_in adj sides table) p → 0 < unmade book (kept_in adj sides table)
    some_unmade p free stale = let e = one_made p Circular free stale in omega (arith, e)

    one_form_more : (p : Place) (form : CellForm) → form_at table p ≡ None → form_count (with_form table p form) ≡ form_count table + 1
    one_form_more (place.Cell a) form none = let e = put_length cells_total exact_cells table.cells a form none in omega (arith, e)
    one_form_more (place.Side k) form none = let e = put_length nat_cmp_total nat_cmp-IsAntisymmetric table.sides k form none in omega (arith, e)

    pub put_is : (p : Place) (form : CellForm) → form_at (with_form table p form) p ≡ Some form
    put_is (place.Cell a) form = put_has cells_total exact_cells table.cells a form
    put_is (place.Side k) form = put_has nat_cmp_total nat_cmp-IsAntisymmetric table.sides k form

    still_there : (p : Place) (form : CellForm) → form_at table p ≡ None → (q : Place) (f : CellForm) → form_at table q ≡ Some f → form_at (with_form table p form) q ≡ Some f
    still_there (place.Cell a) form none (place.Cell b) f at = put_keeps cells_total exact_cells table.cells a form none b f at
    still_there (place.Cell a) form none (place.Side j) f at = at
    still_there (place.Side k) form none (place.Cell b) f at = at
    still_there (place.Side k) form none (place.Side j) f at = put_keeps nat_cmp_total nat_cmp-IsAntisymmetric table.sides k form none j f at

    -- what was missing before is all that can be missing
    missing_before : (now : Table) → ((q : Place) (f : CellForm) → form_at table q ≡ Some f → form_at now q ≡ Some f) → (q : Place) → missing_of is_free now q ≡ true → missing_of is_free table q ≡ true
    missing_before now kept q h =
        both (is_free q) (is_missing table q) (first_true (is_free q) _ h) (by (form_at table q) refl (not_false (is_some (form_at now q)) (second_true (is_free q) _ h)))
      where
        by : (o : Option CellForm) → form_at table q ≡ o → is_some (form_at now q) ≡ false → not (is_some o) ≡ true
        by None e none = refl
        by (Some f) e none = let never : true ≡ false = sym (ap (λ (o : Option CellForm). is_some o) (kept q f e)) ∙ none in absurd cc

    fewer_unmade : (now : Table) → ((q : Place) (f : CellForm) → form_at table q ≡ Some f → form_at now q ≡ Some f) → unmade book (kept_in adj sides now) ≤ unmade book (kept_in adj sides table)
    unfolding unmade
    fewer_unmade now kept =
        let entries : List Place = entries_of book (kept_in adj sides table) in
        let less = no_more_pass (missing_of is_free table) (missing_of is_free now) (missing_before now kept) entries in
        omega (arith, less, count_filter (missing_of is_free table) entries, count_filter (missing_of is_free now) entries)

    abbrev IsRight : Place → CellForm → Type 0
    IsRight q f = HasEntry book sides adj q × (form_of_place book sides adj q ≡ Some f)

    all_right : (p : Place) (form : CellForm) → IsRight p form → AreKept book (kept_in adj sides table) → AreKept book (kept_in adj sides (with_form table p form))
    all_right (place.Cell a) form right kept (place.Cell b) f at =
        put_holds cells_total exact_cells table.cells a form (λ c g. IsRight (place.Cell c) g) right (λ c g h. kept (place.Cell c) g h) b f at
    all_right (place.Cell a) form right kept (place.Side j) f at = kept (place.Side j) f at
    all_right (place.Side k) form right kept (place.Cell b) f at = kept (place.Cell b) f at
    all_right (place.Side k) form right kept (place.Side j) f at =
        put_holds nat_cmp_total nat_cmp-IsAntisymmetric table.sides k form (λ n g. IsRight (place.Side n) g) right (λ n g h. kept (place.Side n) g h) j f at

    abbrev after : Place → CellForm → Kept
    after p form = kept_in adj sides (with_form table p form)

    put_goes : (p : Place) (form : CellForm) → IsStale book (kept_in adj sides table) p → form_of_place book sides adj p ≡ Some form → AreKept book (kept_in adj sides table)
        → Goes book (kept_in adj sides table) (after p form)
    put_goes p form stale is kept =
        let less = one_less p form stale in
        let more = one_form_more p form stale.none in
        record {
          kept = all_right p form (stale.entry, is) kept;
          grown = record { decisions = refl; sides = refl; kept = still_there p form stale.none };
          count = omega (arith, less, more);
          fewer = omega (arith, less);
          less = fewer_unmade (with_form table p form) (still_there p form stale.none);
        }

    -- what it comes to that a form is put
    pub now_goes : (now : Table) (p : Place) (form : CellForm) → now ≡ with_form table p form → IsStale book (kept_in adj sides table) p → form_of_place book sides adj p ≡ Some form
        → AreKept book (kept_in adj sides table) → Goes book (kept_in adj sides table) (kept_in adj sides now)
    now_goes now p form put stale is kept = subst (λ t. Goes book (kept_in adj sides table) (kept_in adj sides t)) (sym put) (put_goes p form stale is kept)

    pub now_less : (now : Table) (p : Place) (form : CellForm) → now ≡ with_form table p form → IsStale book (kept_in adj sides table) p → is_circular_place book sides adj p ≡ false
        → unmade book (kept_in adj sides table) ≡ unmade book (kept_in adj sides now) + 1
    now_less now p form put stale free = one_made p form free stale ∙ ap (λ t. unmade book (kept_in adj sides t) + 1) (sym put)

    pub now_there : (now : Table) (p : Place) (form : CellForm) → now ≡ with_form table p form → IsSome (form_at now p)
    now_there now p form put = ap (λ t. is_some (form_at t p)) put ∙ ap (λ (o : Option CellForm). is_some o) (put_is p form)

  -- ---- what is kept is right
  pub form_there : (table : Table) (b : Cell) → AreKept book (kept_in adj sides table) → IsSome (form_at table (place.Cell b)) → form_at table (place.Cell b) ≡ Some (form_of book (numbered_in adj) b)
  form_there table b kept there =
      let r = some_of (form_at table (place.Cell b)) there in
      r.1 ∙ sym ((kept (place.Cell b) r.0 r.1).1)

  -- the forms are there at which a formula looks, where those of all cells are to which it refers
  pub ready_forms : (table : Table) (a : Cell) (t : Tree) → AreKept book (kept_in adj sides table) → entry book a ≡ Some (Formula t) → numbered_in adj a ≡ None → is_circular book (leaf_in adj) a ≡ false
      → ((b : Cell) → refers (entry book a) b ≡ true → IsThere book (kept_in adj sides table) (place.Cell b)) → HasForms book (numbered_in adj) table t
  ready_forms table a t kept is undecided free ready b looks decided formula =
      let from : LooksFrom (is_circular book (leaf_in adj) a) (forms_of book (numbered_in adj)) (entry book a) b =
      subst (λ T. T) (sym (λ i. LooksFrom (free i) (forms_of book (numbered_in adj)) (is i) b)) looks in
      form_there table b kept (ready b (looked_is_referred book (numbered_in adj) a b (undecided, decided, formula_text book b formula, from)) (formula, decided))

  pub side_forms : (table : Table) (t : Tree) → AreKept book (kept_in adj sides table) → AreThere book (kept_in adj sides table) → HasForms book (numbered_in adj) table t
  side_forms table t kept there b looks decided formula = form_there table b kept (there b (formula, decided))

  -- ---- places
  pub tree_of_place : (p : Place) (t : Tree) → IsTreeIn book sides p t → IsTreeOf book p t
  tree_of_place (place.Cell a) t is = is
  tree_of_place (place.Side k) t is = tt

  pub free_place : (p : Place) (t : Tree) → IsTreeIn book sides p t → is_in_circle book (numbered_in adj) p t ≡ false → is_circular_place book sides adj p ≡ false
  free_place (place.Cell a) t is free = free
  free_place (place.Side k) t is free = ap (is_circular_side book adj) is ∙ free

  pub formed : (p : Place) (t : Tree) (form : CellForm) → IsTreeIn book sides p t → form ≡ place_form book (numbered_in adj) p t → form_of_place book sides adj p ≡ Some form
  formed (place.Cell a) t form tree is = ap Some (sym is)
  formed (place.Side k) t form tree is = ap (option_map (side_form book (numbered_in adj))) tree ∙ ap Some (sym is)

  pub stale_cell : (table : Table) (a : Cell) (t : Tree) → entry book a ≡ Some (Formula t) → numbered_in adj a ≡ None → is_some (form_at table (place.Cell a)) ≡ false → IsStale book (kept_in adj sides table) (place.Cell a)
  stale_cell table a t is undecided none = record { entry = (ap is_formula is, undecided); none = none_of (form_at table (place.Cell a)) none }

  pub stale_side : (table : Table) (k : ℕ) (t : Tree) → tree_of sides k ≡ Some t → is_some (form_at table (place.Side k)) ≡ false → IsStale book (kept_in adj sides table) (place.Side k)
  stale_side table k t is none = record { entry = ap (λ (o : Option Tree). is_some o) is; none = none_of (form_at table (place.Side k)) none }

  -- ---- circles
  circular_entry : (a : Cell) → is_circular book (leaf_in adj) a ≡ true → HasEntry book sides adj (place.Cell a)
  circular_entry a h =
      let rest = second_true (is_formula (entry book a)) (not (leaf_in adj a) && has_walk (keys book.texts) (steps_to book (leaf_in adj)) (length (keys book.texts)) a) h in
      (first_true (is_formula (entry book a)) _ h, none_of (numbered_in adj a) (not_false (leaf_in adj a) (first_true (not (leaf_in adj a)) _ rest)))

  pub circular_stale : (table : Table) (a : Cell) → is_circular book (leaf_in adj) a ≡ true → is_some (form_at table (place.Cell a)) ≡ false → IsStale book (kept_in adj sides table) (place.Cell a)
  circular_stale table a h none = record { entry = circular_entry a h; none = none_of (form_at table (place.Cell a)) none }

  pub circular_form : (a : Cell) → is_circular book (leaf_in adj) a ≡ true → form_of_place book sides adj (place.Cell a) ≡ Some Circular
  circular_form a h =
      let undecided : numbered_in adj a ≡ None = (circular_entry a h).1 in
      ap Some (form_is book (numbered_in adj) a ∙ (λ i. decision_or (undecided i) (if h i then Circular else entry_form (forms_of book (numbered_in adj)) (entry book a))))

  pub circular_side : (k : ℕ) (t : Tree) → tree_of sides k ≡ Some t → refers_to_circle book (leaf_in adj) t ≡ true → form_of_place book sides adj (place.Side k) ≡ Some Circular
  circular_side k t tree h =
      ap (option_map (side_form book (numbered_in adj))) tree ∙ ap (λ w. Some (if w then Circular else formula_form (forms_of book (numbered_in adj)) t)) h

  module _ (cells : List Cell) (circles : AreCircular book adj cells) where
    pub each_circular : (p : ℕ) (a : Cell) → slice_get cells p ≡ Some a → is_circular book (leaf_in adj) a ≡ true
    each_circular p a at = sym (circles a) ∙ passes_one (eq_by_cmp cell_cmp a) cells p a at (itself a)

    pub listed_circular : (a : Cell) → is_circular book (leaf_in adj) a ≡ true → (p : ℕ) × (slice_get cells p ≡ Some a)
    listed_circular a h =
        let r = one_passes (eq_by_cmp cell_cmp a) cells (circles a ∙ h) in
        (r.0, r.2 ∙ ap Some (sym (same_cells a r.1 r.3)))

    pub same_circle : (t : Tree) → list_any (λ b. refers (Some (Formula t)) b) cells ≡ refers_to_circle book (leaf_in adj) t
    same_circle t = alike _ _ there back
      where
        there : list_any (λ b. refers (Some (Formula t)) b) cells ≡ true → refers_to_circle book (leaf_in adj) t ≡ true
        there h =
            let r = one_passes (λ b. refers (Some (Formula t)) b) cells h in
            let circle = each_circular r.0 r.1 r.2 in
            found_text book r.1 (λ b. refers (Some (Formula t)) b && is_circular book (leaf_in adj) b) (formula_text book r.1 (circular_entry r.1 circle).0)
            (both (refers (Some (Formula t)) r.1) (is_circular book (leaf_in adj) r.1) r.3 circle)

        back : refers_to_circle book (leaf_in adj) t ≡ true → list_any (λ b. refers (Some (Formula t)) b) cells ≡ true
        back h =
            let r = one_passes (λ b. refers (Some (Formula t)) b && is_circular book (leaf_in adj) b) (keys book.texts) h in
            let at = listed_circular r.1 (second_true (refers (Some (Formula t)) r.1) (is_circular book (leaf_in adj) r.1) r.3) in
            passes_one (λ b. refers (Some (Formula t)) b) cells at.0 r.1 at.1 (first_true (refers (Some (Formula t)) r.1) (is_circular book (leaf_in adj) r.1) r.3)

    -- ---- all cells, and all places
    pub cells_there : (order : List Cell) (before now : Table) → HasFree book (leaf_in adj) (λ a. Unit {0}) order → Goes book (kept_in adj sides before) (kept_in adj sides now)
        → ((p : ℕ) (a : Cell) → slice_get cells p ≡ Some a → IsSome (form_at before (place.Cell a)))
        → ((p : ℕ) (a : Cell) → slice_get order p ≡ Some a → IsThere book (kept_in adj sides now) (place.Cell a)) → AreThere book (kept_in adj sides now)
    cells_there order before now free goes circular ordered a has = by (is_circular book (leaf_in adj) a) refl
      where
        by : (w : Bool) → is_circular book (leaf_in adj) a ≡ w → IsSome (form_at now (place.Cell a))
        by true e =
            let at = listed_circular a e in
            let r = some_of (form_at before (place.Cell a)) (circular at.0 a at.1) in
            ap (λ (o : Option CellForm). is_some o) (goes.grown.kept (place.Cell a) r.0 r.1)
        by false e = let at = free a tt has.0 e in ordered at.0 a at.1 has

  pub still_some : (before now : Table) → Goes book (kept_in adj sides before) (kept_in adj sides now) → (p : Place) → IsSome (form_at before p) → IsSome (form_at now p)
  still_some before now goes p there =
      let r = some_of (form_at before p) there in
      ap (λ (o : Option CellForm). is_some o) (goes.grown.kept p r.0 r.1)

  pub all_settled : (before now : Table) → Goes book (kept_in adj sides before) (kept_in adj sides now) → AreThere book (kept_in adj sides before)
      → ((p : ℕ) (s : ℕ × Tree) → slice_get sides p ≡ Some s → IsSome (form_at now (place.Side s.0))) → AllAreKept book (kept_in adj sides now)
  all_settled before now goes cells each = record { forms = goes.kept; all = all }
    where
      all : (p : Place) → HasEntry book sides adj p → IsSome (form_at now p)
      all (place.Cell a) has = still_some before now goes (place.Cell a) (cells a has)
      all (place.Side k) has = let r = side_found k has in subst (λ n. IsSome (form_at now (place.Side n))) r.3 (each r.0 r.1 r.2)

  -- then none is stale
  side_there : (i : ℕ) (s : ℕ × Tree) → HaveOwnNumbers sides → slice_get sides i ≡ Some s → tree_of sides s.0 ≡ Some s.1
  side_there i s own at = ap (option_map (λ (t : ℕ × Tree). t.1)) (found_at sides own i s at)

  pub tree_found : (i n : ℕ) (t : Tree) → HaveOwnNumbers sides → slice_get sides i ≡ Some (n, t) → tree_of sides n ≡ Some t
  tree_found i n t own at = side_there i (n, t) own at

  not_missing : (o : Option CellForm) → is_some o ≡ true → not (is_some o) ≡ false
  not_missing o h = ap not h

  pub none_left : (table : Table) → HaveOwnNumbers sides → AllAreKept book (kept_in adj sides table) → left book (kept_in adj sides table) ≡ 0
  none_left table own settled =
      let cells : cells_missing every table ≡ 0 =
      none_of_those (λ a. is_missing table (place.Cell a)) has_form
      (λ a h. not_missing (form_at table (place.Cell a)) (settled.all (place.Cell a)
      (first_true (is_formula (entry book a)) _ h, none_of (numbered_in adj a) (not_false (is_some (numbered_in adj a)) (second_true (is_formula (entry book a)) _ h))))) (keys book.texts) in
      let others : sides_missing every table ≡ 0 =
      count_map (λ n. is_missing table (place.Side n)) (λ (s : ℕ × Tree). s.0) sides
      ∙ none_of_all (λ (s : ℕ × Tree). is_missing table (place.Side s.0)) sides
      (λ i s at. not_missing (form_at table (place.Side s.0)) (settled.all (place.Side s.0) (ap (λ (o : Option Tree). is_some o) (side_there i s own at)))) in
      left_parts table ∙ (λ i. cells i + others i)

-- ---- one after the other
pub goes_itself : (book : Book) (k : Kept) → AreKept book k → Goes book k k
goes_itself book k kept =
    record { kept = kept; grown = record { decisions = refl; sides = refl; kept = λ p f at. at }; count = refl; fewer = omega arith; less = omega arith }

pub goes_same : (book : Book) (adj : List Cell) (sides : Sides) (table now : Table) → now ≡ table → AreKept book (kept_in adj sides table) → Goes book (kept_in adj sides table) (kept_in adj sides now)
goes_same book adj sides table now e kept = subst (λ t. Goes book (kept_in adj sides table) (kept_in adj sides t)) (sym e) (goes_itself book (kept_in adj sides table) kept)

no_more : (a b c : ℕ) → c ≤ b → b ≤ a → c ≤ a
no_more a b c g h = omega (arith, g, h)

pub goes_on : (book : Book) (k l m : Kept) → Goes book k l → Goes book l m → Goes book k m
goes_on book k l m g h =
    record {
      kept = h.kept;
      grown = record { decisions = h.grown.decisions ∙ g.grown.decisions; sides = h.grown.sides ∙ g.grown.sides; kept = λ p f at. h.grown.kept p f (g.grown.kept p f at) };
      count = h.count ∙ g.count;
      fewer = no_more _ _ _ h.fewer g.fewer;
      less = no_more _ _ _ h.less g.less;
    }

pub left_is : (book : Book) (k : Kept) → left book k ≡ stale_count book k
unfolding left
left_is book k = refl

pub unmade_is : (book : Book) (k : Kept) → unmade book k ≡ count_to_make book k
unfolding unmade
unmade_is book k = refl

-- ---- cells to be decided as a set
first_or : (w : Bool) (m n : ℕ) (r : Bool) → r ≡ nat_lt m n → (w || r) ≡ nat_lt (cond (not w) (1 + m) 0) (suc n)
first_or true m n r e = zero_below n
first_or false m n r e = e ∙ both_later m n

position_below : (test : Cell → Bool) (adj : List Cell) → list_any test adj ≡ nat_lt (position_or_len test adj) (length adj)
position_below test [] = refl
position_below test (a ∷ adj) = first_or (test a) (position_or_len test adj) (length adj) (list_any test adj) (position_below test adj)

some_where : (w : Bool) (n : ℕ) → w ≡ is_some (cond w (Some n) None)
some_where true n = refl
some_where false n = refl

same_by : (a b : Cell) → eq_by_cmp cell_cmp b a ≡ is_same_cell b a
same_by a b =
    alike (eq_by_cmp cell_cmp b a) (is_same_cell b a) (λ h. ap (is_same_cell b) (sym (same_cells b a h)) ∙ same_itself b)
    (λ h. ap (eq_by_cmp cell_cmp b) (sym (equal_cells b a h)) ∙ itself b)

any_same : (adj : List Cell) (b : Cell) → list_any (eq_by_cmp cell_cmp b) adj ≡ list_any (is_same_cell b) adj
any_same [] b = refl
any_same (a ∷ adj) b = λ j. same_by a b j || any_same adj b j

found_as : (adj : List Cell) (b : Cell) → list_any (eq_by_cmp cell_cmp b) adj ≡ is_some (numbered_in adj b)
found_as adj b =
    any_same adj b ∙ position_below (is_same_cell b) adj ∙ some_where (nat_lt (position_or_len (is_same_cell b) adj) (length adj)) (position_or_len (is_same_cell b) adj)

pub leaves_are : (leaves : set.FinSet cell_cmp) (adj : List Cell) → leaves ≡ set.from_list adj → set.contains leaves ≡ leaf_in adj
leaves_are leaves adj e = λ i b. (ap (λ s. set.contains s b) e ∙ set.contains-from_list cells_total adj b ∙ found_as adj b) i

pub order_of : (book : Book) (leaves : set.FinSet cell_cmp) (adj order : List Cell) → leaves ≡ set.from_list adj → IsOrder book (set.contains leaves) order → IsOrder book (leaf_in adj) order
order_of book leaves adj order e h = subst (λ (leaf : Cell → Bool). IsOrder book leaf order) (leaves_are leaves adj e) h

pub free_of : (book : Book) (leaves : set.FinSet cell_cmp) (adj order : List Cell) → leaves ≡ set.from_list adj → HasFree book (set.contains leaves) (λ a. Unit {0}) order → HasFree book (leaf_in adj) (λ a. Unit {0}) order
free_of book leaves adj order e h = subst (λ (leaf : Cell → Bool). HasFree book leaf (λ a. Unit {0}) order) (leaves_are leaves adj e) h

pub circular_of : (book : Book) (leaves circles : set.FinSet cell_cmp) (adj cells : List Cell) → leaves ≡ set.from_list adj → ((a : Cell) → set.contains circles a ≡ is_circular book (set.contains leaves) a)
    → set.from_list cells ≡ circles → AreCircular book adj cells
circular_of book leaves circles adj cells e h d a =
    sym (set.contains-from_list cells_total cells a) ∙ ap (λ s. set.contains s a) d ∙ h a ∙ ap (λ (leaf : Cell → Bool). is_circular book leaf a) (leaves_are leaves adj e)

pub one_leaf_more : (cells : List Cell) (i : ℕ) (d : Cell) (leaves now : set.FinSet cell_cmp) → i < length cells → leaves ≡ set.from_list (take i cells) → now ≡ set.insert leaves (get_or cells i d) → now ≡ set.from_list (take (i + 1) cells)
one_leaf_more cells i d leaves now within before after =
    after ∙ ap (λ s. set.insert s (get_or cells i d)) before ∙ sym (set.from_list_push cells_total exact_cells (take i cells) (get_or cells i d)) ∙ ap set.from_list (sym (take_more cells i d within))

-- ---- trees
pub tree_entry : (e : Option Entry) (t : Tree) → Some t ≡ tree_of_entry e → e ≡ Some (Formula t)
tree_entry None t h = absurd cc
tree_entry (Some (Constant v)) t h = absurd cc
tree_entry (Some (Formula u)) t h = cc
tree_entry (Some Malformed) t h = absurd cc

pub no_tree : (e : Option Entry) → None ≡ tree_of_entry e → is_formula e ≡ true → ⊥
no_tree None h k = absurd cc
no_tree (Some (Constant v)) h k = absurd cc
no_tree (Some (Formula t)) h k = absurd cc
no_tree (Some Malformed) h k = absurd cc

pub within_both : (a b c : ℕ) → a ≤ b → b ≤ c → a ≤ c
within_both a b c e f = omega (arith, e, f)

pub counted_as : (len before l m n k s : ℕ) → len ≡ l → before ≡ m → l + n ≡ m + k → n ≡ 0 → k ≡ s → len - before ≡ s
counted_as len before l m n k s e f g h i = omega (arith, e, f, g, h, i)
