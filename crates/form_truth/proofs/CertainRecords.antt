-- The error of what a search finds, where each record that it may find has the same.
use Rattle.std.specs.Prelude.{◌+◌, ◌&&◌, not, cond, nat_lt, length, if◌then◌else◌, ◌==◌, option_map}
use Rattle.std.specs.List.{before_first, position, position_or_len}
use Rattle.std.specs.Ordering.{is_eq, is_gt, is_lt}
use Rattle.std.proofs.Common.{◌≡◌, refl, ap, ◌∙◌, Bool, true, false, List, [], ◌∷◌, map, Option, Some, None, ℕ, arith}
use Rattle.std.proofs.lemmas.Bool.Decides.{nat_tests}
use Rattle.cell_refs.specs.declared.error_kind.ErrorKind.{ErrorKind}
use Rattle.cell_refs.specs.declared.error_kind.ErrorKind.TheVariants as kind
use Rattle.sheet_model.specs.Comparison.{value_cmp}
use Rattle.sheet_model.specs.declared.value.Value.{Value}
use Rattle.sheet_funcs.specs.Lookups.{is_key, is_equal_to, is_greater_than, is_less_than, last_or_this, last_place, found}
use Rattle.sheet_funcs.specs.declared.lookups.MatchKind.{MatchKind}
use Rattle.sheet_funcs.specs.declared.lookups.MatchKind.TheVariants.{Equal, Rising, Falling}
use Rattle.affine_forms.specs.Forms.{Assignment}
use Rattle.form_values.specs.Meaning.{abs_at}
use Rattle.form_values.specs.declared.abs.Abs.{Abs}
use Rattle.form_values.specs.declared.abs.Abs.TheVariants.{Known, Affine, Test}
use Rattle.form_table.specs.Choosing.{place_of}
use Rattle.form_table.specs.Lookups.{may_be_key, known_value}
use Rattle.form_table.specs.CertainRecords.{Errors, same_error, ends_at, known_end, end_at, error_there, error_behind, if_ends, search_error, found_error}
use Rattle.form_truth.proofs.Ended.{first_fails, first_passes}
use Rattle.form_truth.proofs.Records.{Among, alone, both_kinds}
use Rattle.form_truth.proofs.Sameness.{same_error_is}
use Rattle.form_truth.proofs.Varying.{value_known}

-- ---- the same error
of_same : (b : Bool) (l m k : ErrorKind) → (place_of l == place_of m) ≡ b → (if b then Some m else None) ≡ Some k → (l ≡ k) × (m ≡ k)
of_same true l m k same h = let s : m ≡ k = cc in (same_error_is l m same ∙ s, s)
of_same false l m k same h = cc

both_errors : (o p : Option ErrorKind) (k : ErrorKind) → same_error o p ≡ Some k → (o ≡ Some k) × (p ≡ Some k)
both_errors None p k h = cc
both_errors (Some l) None k h = cc
both_errors (Some l) (Some m) k h = let s = of_same (place_of l == place_of m) l m k refl h in (ap Some s.0, ap Some s.1)

-- ---- what is found among the keys from a place on
abbrev pub error_found : Errors → ℕ → Option ErrorKind → Option ℕ → Option ErrorKind
error_found error i before None = before
error_found error i before (Some j) = error (i + j)

module _ (error : Errors) (i : ℕ) (before : Option ErrorKind) where
  at_first : error (i + 0) ≡ error i
  at_first = ap error (omega arith)

  at_next : (j : ℕ) → error (i + (j + 1)) ≡ error (i + 1 + j)
  at_next j = ap error (omega arith)

  last_shifted : (here : Bool) (o : Option ℕ) → error_found error i before (last_or_this here o) ≡ error_found error (i + 1) (if here then error i else before) o
  last_shifted true None = at_first
  last_shifted false None = refl
  last_shifted true (Some j) = at_next j
  last_shifted false (Some j) = at_next j

  first_shifted : (o : Option ℕ) → error_found error i before (option_map (λ (j : ℕ). j + 1) o) ≡ error_found error (i + 1) before o
  first_shifted None = refl
  first_shifted (Some j) = at_next j

  -- ---- by the first value, which passes a test or doesn't
  module _ (test : Value → Bool) (v : Value) (vs : List Value) where
    sorted_ended : test v ≡ true → error_found error i before (last_place is_key (before_first test (v ∷ vs))) ≡ before
    sorted_ended e = ap (λ us. error_found error i before (last_place is_key us)) (first_passes test v vs e)

    sorted_passed : test v ≡ false → error_found error i before (last_place is_key (before_first test (v ∷ vs)))
        ≡ error_found error (i + 1) (if is_key v then error i else before) (last_place is_key (before_first test vs))
    sorted_passed e =
        ap (λ us. error_found error i before (last_place is_key us)) (first_fails test v vs e) ∙ last_shifted (is_key v) (last_place is_key (before_first test vs))

    equal_there : test v ≡ true → position test (v ∷ vs) ≡ Some 0
    equal_there e =
        let first : position_or_len test (v ∷ vs) ≡ 0 = ap (λ b. cond (not b) (1 + position_or_len test vs) 0) e in
        let within : nat_lt 0 (length (v ∷ vs)) ≡ true = grind (arith, nat_tests) in
        rw (first, within) refl

    one_more : (b : Bool) → cond b (Some (1 + position_or_len test vs)) None ≡ option_map (λ (j : ℕ). j + 1) (cond b (Some (position_or_len test vs)) None)
    one_more true = let more : 1 + position_or_len test vs ≡ position_or_len test vs + 1 = omega arith in ap Some more
    one_more false = refl

    equal_later : test v ≡ false → position test (v ∷ vs) ≡ option_map (λ (j : ℕ). j + 1) (position test vs)
    equal_later e =
        let first : position_or_len test (v ∷ vs) ≡ 1 + position_or_len test vs = ap (λ b. cond (not b) (1 + position_or_len test vs) 0) e in
        let later : nat_lt (1 + position_or_len test vs) (length (v ∷ vs)) ≡ nat_lt (position_or_len test vs) (length vs) = grind (arith, nat_tests) in
        rw (first, later) (one_more (nat_lt (position_or_len test vs) (length vs)))

    equal_ended : test v ≡ true → error_found error i before (position test (v ∷ vs)) ≡ error i
    equal_ended e = ap (error_found error i before) (equal_there e) ∙ at_first

    equal_passed : test v ≡ false → error_found error i before (position test (v ∷ vs)) ≡ error_found error (i + 1) before (position test vs)
    equal_passed e = ap (error_found error i before) (equal_later e) ∙ first_shifted (position test vs)

  -- ---- by the kind of search
  module _ (key v : Value) (vs : List Value) where
    ended : (search : MatchKind) → ends_at search key v ≡ true → error_found error i before (found search key (v ∷ vs)) ≡ error_there search (error i) before
    ended Equal e = equal_ended (is_equal_to key) v vs e
    ended Rising e = sorted_ended (is_greater_than key) v vs e
    ended Falling e = sorted_ended (is_less_than key) v vs e

    passed : (search : MatchKind) → ends_at search key v ≡ false → error_found error i before (found search key (v ∷ vs))
        ≡ error_found error (i + 1) (error_behind search (is_key v) (error i) before) (found search key vs)
    passed Equal e = equal_passed (is_equal_to key) v vs e
    passed Rising e = sorted_passed (is_greater_than key) v vs e
    passed Falling e = sorted_passed (is_less_than key) v vs e

-- ---- what is known of an element holds under every assignment
key_at : (x : Assignment) (a : Abs) → is_key (abs_at x a) ≡ may_be_key a
key_at x (Known v) = refl
key_at x (Affine f) = refl
key_at x (Test f r) = refl

never_ends : (search : MatchKind) (key v : Value) → is_key v ≡ false → ends_at search key v ≡ false
never_ends Equal key v e = ap (λ b. b && is_eq (value_cmp v key)) e
never_ends Rising key v e = ap (λ b. b && is_gt (value_cmp v key)) e
never_ends Falling key v e = ap (λ b. b && is_lt (value_cmp v key)) e

nothing_there : (search : MatchKind) (key : Value) → found search key [] ≡ None
nothing_there Equal key = refl
nothing_there Rising key = refl
nothing_there Falling key = refl

-- a key, and its value under the assignment
module _ (x : Assignment) (key : Option Value) (value : Value) (same : (v : Value) → key ≡ Some v → value ≡ v) where
  known_end_right : (search : MatchKind) (v : Value) (c : Bool) (k : Option Value) → key ≡ k → known_end search k v ≡ Some c → ends_at search value v ≡ c
  known_end_right search v c (Some w) e h = let s : ends_at search w v ≡ c = cc in ap (λ u. ends_at search u v) (same w e) ∙ s
  known_end_right search v c None e h = by_key (is_key v) refl h
    where
      by_key : (b : Bool) → is_key v ≡ b → (if b then None else Some false) ≡ Some c → ends_at search value v ≡ c
      by_key true d h = cc
      by_key false d h = let s : false ≡ c = cc in never_ends search value v d ∙ s

  end_right : (search : MatchKind) (a : Abs) (c : Bool) → end_at search key a ≡ Some c → ends_at search value (abs_at x a) ≡ c
  end_right search (Known v) c h = known_end_right search v c key refl h
  end_right search (Affine f) c h = cc
  end_right search (Test f r) c h = cc

  -- ---- one kind of search
  abbrev behind : MatchKind → Errors → ℕ → Option ErrorKind → Abs → Option ErrorKind
  behind search error i before a = error_behind search (may_be_key a) (error i) before

  abbrev later : MatchKind → Errors → ℕ → Option ErrorKind → Abs → List Abs → Option ErrorKind
  later search error i before a keys = search_error search error key (i + 1) (behind search error i before a) keys

  abbrev found_at : MatchKind → Errors → ℕ → Option ErrorKind → List Abs → Option ErrorKind
  found_at search error i before keys = error_found error i before (found search value (map (abs_at x) keys))

  -- one element, by those behind it
  module _ (search : MatchKind) (error : Errors) (i : ℕ) (before : Option ErrorKind) (a : Abs) (keys : List Abs) (k : ErrorKind)
      (others : later search error i before a keys ≡ Some k → found_at search error (i + 1) (behind search error i before a) keys ≡ Some k) where
    goes_on : ends_at search value (abs_at x a) ≡ false → later search error i before a keys ≡ Some k → found_at search error i before (a ∷ keys) ≡ Some k
    goes_on e h =
        passed error i before value (abs_at x a) (map (abs_at x) keys) search e
        ∙ ap (λ b. error_found error (i + 1) (error_behind search b (error i) before) (found search value (map (abs_at x) keys))) (key_at x a)
        ∙ others h

    either : (c : Bool) → ends_at search value (abs_at x a) ≡ c → (error_there search (error i) before ≡ Some k) × (later search error i before a keys ≡ Some k) → found_at search error i before (a ∷ keys) ≡ Some k
    either true e p = ended error i before value (abs_at x a) (map (abs_at x) keys) search e ∙ p.0
    either false e p = goes_on e p.1

    by_end : (o : Option Bool) → end_at search key a ≡ o → if_ends o (error_there search (error i) before) (later search error i before a keys) ≡ Some k → found_at search error i before (a ∷ keys) ≡ Some k
    by_end (Some true) e h = ended error i before value (abs_at x a) (map (abs_at x) keys) search (end_right search a true e) ∙ h
    by_end (Some false) e h = goes_on (end_right search a false e) h
    by_end None e h = either (ends_at search value (abs_at x a)) refl (both_errors (error_there search (error i) before) (later search error i before a keys) k h)

  search_right : (search : MatchKind) (error : Errors) (i : ℕ) (before : Option ErrorKind) (keys : List Abs) (k : ErrorKind) → search_error search error key i before keys ≡ Some k → found_at search error i before keys ≡ Some k
  search_right search error i before [] k h = ap (error_found error i before) (nothing_there search value) ∙ h
  search_right search error i before (a ∷ keys) k h =
      by_end search error i before a keys k (search_right search error (i + 1) (behind search error i before a) keys k) (end_at search key a) refl h

  -- ---- by the kinds that may be asked for
  abbrev first_error : Errors → MatchKind → List Abs → Option ErrorKind
  first_error error search keys = search_error search error key 0 (Some kind.NotAvailable) keys

  kinds_right : (sorted : Bool) (kinds : List MatchKind) → Among sorted kinds → (error : Errors) (keys : List Abs) (k : ErrorKind) → found_error error key keys kinds ≡ Some k
      → error_found error 0 (Some kind.NotAvailable) (found (if sorted then Rising else Equal) value (map (abs_at x) keys)) ≡ Some k
  kinds_right sorted kinds alone error keys k h = search_right (if sorted then Rising else Equal) error 0 (Some kind.NotAvailable) keys k h
  kinds_right true kinds both_kinds error keys k h = search_right Rising error 0 (Some kind.NotAvailable) keys k (both_errors (first_error error Equal keys) (first_error error Rising keys) k h).1
  kinds_right false kinds both_kinds error keys k h = search_right Equal error 0 (Some kind.NotAvailable) keys k (both_errors (first_error error Equal keys) (first_error error Rising keys) k h).0

pub found_right : (x : Assignment) (b : Abs) (sorted : Bool) (kinds : List MatchKind) → Among sorted kinds → (error : Errors) (keys : List Abs) (k : ErrorKind) → found_error error (known_value b) keys kinds ≡ Some k
    → error_found error 0 (Some kind.NotAvailable) (found (if sorted then Rising else Equal) (abs_at x b) (map (abs_at x) keys)) ≡ Some k
found_right x b sorted kinds among error keys k h = kinds_right x (known_value b) (abs_at x b) (λ v e. value_known b v e x) sorted kinds among error keys k h
