-- Whether a key is never found, by the first of the keys.
use Rattle.std.specs.Prelude.{◌+◌, ◌&&◌, ◌||◌, not, cond, nat_lt, length, is_none, if◌then◌else◌}
use Rattle.std.specs.List.{list_all, list_any, before_first, position, position_or_len}
use Rattle.std.specs.Ordering.{is_eq, is_gt, is_lt}
use Rattle.std.proofs.Common.{◌≡◌, refl, sym, ap, ap₂, ◌∙◌, Bool, true, false, List, ◌∷◌, Option, Some, None, ℕ, arith}
use Rattle.std.proofs.Math.Bool.{and-false}
use Rattle.std.proofs.lemmas.Bool.Decides.{nat_tests}
use Rattle.sheet_model.specs.Comparison.{value_cmp}
use Rattle.sheet_model.specs.declared.value.Value.{Value}
use Rattle.sheet_funcs.specs.Lookups.{is_key, is_equal_to, is_greater_than, is_less_than, last_or_this, last_place}
use Rattle.sheet_funcs.specs.declared.lookups.MatchKind.{MatchKind}
use Rattle.sheet_funcs.specs.declared.lookups.MatchKind.TheVariants.{Equal, Rising, Falling}
use Rattle.form_values.specs.declared.abs.Abs.{Abs}
use Rattle.form_values.specs.declared.abs.Abs.TheVariants.{Known}
use Rattle.form_values.specs.Known.{is_known}
use Rattle.form_table.specs.Lookups.{front, is_never_found}
use Rattle.form_ops.proofs.FromFormTruth.{first_fails, first_passes}
use Rattle.form_areas.specs.Kinds.{never_at, never_by}

-- ---- a sorted search, which a value ends that passes the test
abbrev sorted : (Value → Bool) → List Abs → Bool
sorted test items = (list_all is_known items || list_any test (front items)) && is_none (last_place is_key (before_first test (front items)))

or_true : (b : Bool) → ((b || true) && true) ≡ true
or_true true = refl
or_true false = refl

some_last : (o : Option ℕ) → is_none (last_or_this true o) ≡ false
some_last (Some i) = refl
some_last None = refl

same_last : (o : Option ℕ) → is_none (last_or_this false o) ≡ is_none o
same_last (Some i) = refl
same_last None = refl

module _ (test : Value → Bool) (v : Value) (items : List Abs) where
  sorted_ended : test v ≡ true → sorted test (Known v ∷ items) ≡ true
  sorted_ended e =
      ap₂ (λ b vs. (list_all is_known items || (b || list_any test (front items))) && is_none (last_place is_key vs)) e (first_passes test v (front items) e)
      ∙ or_true (list_all is_known items)

  sorted_found : is_key v ≡ true → test v ≡ false → sorted test (Known v ∷ items) ≡ false
  sorted_found k e =
      let ends = list_all is_known items || (test v || list_any test (front items)) in
      let others = last_place is_key (before_first test (front items)) in
      ap (λ vs. ends && is_none (last_place is_key vs)) (first_fails test v (front items) e) ∙ ap (λ b. ends && is_none (last_or_this b others)) k
      ∙ ap (λ b. ends && b) (some_last others) ∙ and-false ends

  sorted_passed : is_key v ≡ false → test v ≡ false → sorted test (Known v ∷ items) ≡ sorted test items
  sorted_passed k e =
      let ends = list_all is_known items || list_any test (front items) in
      let others = last_place is_key (before_first test (front items)) in
      ap₂ (λ b vs. (list_all is_known items || (b || list_any test (front items))) && is_none (last_place is_key vs)) e (first_fails test v (front items) e)
      ∙ ap (λ b. ends && is_none (last_or_this b others)) k ∙ ap (λ b. ends && b) (same_last others)

-- ---- a search for an equal value
none_by : (c : Bool) (i : ℕ) → is_none (cond c (Some i) None) ≡ not c
none_by true i = refl
none_by false i = refl

module _ (test : Value → Bool) (v : Value) (vs : List Value) where
  equal_there : test v ≡ true → is_none (position test (v ∷ vs)) ≡ false
  equal_there e =
      let first : position_or_len test (v ∷ vs) ≡ 0 = ap (λ b. cond (not b) (1 + position_or_len test vs) 0) e in
      let within : nat_lt 0 (length (v ∷ vs)) ≡ true = grind (arith, nat_tests) in
      none_by _ _ ∙ rw (first, within) refl

  equal_later : test v ≡ false → is_none (position test (v ∷ vs)) ≡ is_none (position test vs)
  equal_later e =
      let first : position_or_len test (v ∷ vs) ≡ 1 + position_or_len test vs = ap (λ b. cond (not b) (1 + position_or_len test vs) 0) e in
      let later : nat_lt (1 + position_or_len test vs) (length (v ∷ vs)) ≡ nat_lt (position_or_len test vs) (length vs) = grind (arith, nat_tests) in
      none_by _ _ ∙ ap (λ n. not (nat_lt n (length (v ∷ vs)))) first ∙ ap not later ∙ sym (none_by _ _)

-- ---- the first key
module _ (key v : Value) (items : List Abs) where
  -- it tells
  pub told : (kind : MatchKind) (b : Bool) → never_by kind key v ≡ Some b → is_never_found kind key (Known v ∷ items) ≡ b
  told kind b h = by_key (is_key v) refl h
    where
      by_equal : is_key v ≡ true → (q : Bool) → is_eq (value_cmp v key) ≡ q → (if q then Some false else None) ≡ Some b → is_never_found Equal key (Known v ∷ items) ≡ b
      by_equal e true f h =
          let s : false ≡ b = cc in
          let ends = list_all is_known items || false in
          ap (λ b. ends && b) (equal_there (is_equal_to key) v (front items) (ap₂ ◌&&◌ e f)) ∙ and-false ends ∙ s
      by_equal e false f h = cc

      by_rising : is_key v ≡ true → (q : Bool) → is_gt (value_cmp v key) ≡ q → Some q ≡ Some b → is_never_found Rising key (Known v ∷ items) ≡ b
      by_rising e true f h = let s : true ≡ b = cc in sorted_ended (is_greater_than key) v items (ap₂ ◌&&◌ e f) ∙ s
      by_rising e false f h = let s : false ≡ b = cc in sorted_found (is_greater_than key) v items e (ap₂ ◌&&◌ e f) ∙ s

      by_falling : is_key v ≡ true → (q : Bool) → is_lt (value_cmp v key) ≡ q → Some q ≡ Some b → is_never_found Falling key (Known v ∷ items) ≡ b
      by_falling e true f h = let s : true ≡ b = cc in sorted_ended (is_less_than key) v items (ap₂ ◌&&◌ e f) ∙ s
      by_falling e false f h = let s : false ≡ b = cc in sorted_found (is_less_than key) v items e (ap₂ ◌&&◌ e f) ∙ s

      by_kind : (kind : MatchKind) → is_key v ≡ true → never_at kind (value_cmp v key) ≡ Some b → is_never_found kind key (Known v ∷ items) ≡ b
      by_kind Equal e h = by_equal e (is_eq (value_cmp v key)) refl h
      by_kind Rising e h = by_rising e (is_gt (value_cmp v key)) refl h
      by_kind Falling e h = by_falling e (is_lt (value_cmp v key)) refl h

      by_key : (k : Bool) → is_key v ≡ k → (if k then never_at kind (value_cmp v key) else None) ≡ Some b → is_never_found kind key (Known v ∷ items) ≡ b
      by_key true e h = by_kind kind e h
      by_key false e h = cc

  -- the search goes on
  pub passed : (kind : MatchKind) → never_by kind key v ≡ None → is_never_found kind key (Known v ∷ items) ≡ is_never_found kind key items
  passed kind h = by_key (is_key v) refl h
    where
      not_equal : (is_equal_to key v) ≡ false → is_never_found Equal key (Known v ∷ items) ≡ is_never_found Equal key items
      not_equal e = ap (λ b. (list_all is_known items || false) && b) (equal_later (is_equal_to key) v (front items) e)

      by_equal : is_key v ≡ true → (q : Bool) → is_eq (value_cmp v key) ≡ q → (if q then Some false else None) ≡ None → is_never_found Equal key (Known v ∷ items) ≡ is_never_found Equal key items
      by_equal e true f h = cc
      by_equal e false f h = not_equal (ap₂ ◌&&◌ e f)

      by_kind : (kind : MatchKind) → is_key v ≡ true → never_at kind (value_cmp v key) ≡ None → is_never_found kind key (Known v ∷ items) ≡ is_never_found kind key items
      by_kind Equal e h = by_equal e (is_eq (value_cmp v key)) refl h
      by_kind Rising e h = cc
      by_kind Falling e h = cc

      not_key : (kind : MatchKind) → is_key v ≡ false → is_never_found kind key (Known v ∷ items) ≡ is_never_found kind key items
      not_key Equal e = not_equal (ap (λ b. b && is_eq (value_cmp v key)) e)
      not_key Rising e = sorted_passed (is_greater_than key) v items e (ap (λ b. b && is_gt (value_cmp v key)) e)
      not_key Falling e = sorted_passed (is_less_than key) v items e (ap (λ b. b && is_lt (value_cmp v key)) e)

      by_key : (k : Bool) → is_key v ≡ k → (if k then never_at kind (value_cmp v key) else None) ≡ None → is_never_found kind key (Known v ∷ items) ≡ is_never_found kind key items
      by_key true e h = by_kind kind e h
      by_key false e h = not_key kind e
