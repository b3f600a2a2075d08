-- A key that is never found among open keys is found under no assignment.
use Rattle.std.specs.Prelude.{◌+◌, ◌||◌, not, cond, take, is_none}
use Rattle.std.specs.List.{list_all, list_any, before_first, position_or_len}
use Rattle.std.proofs.Common.{◌≡◌, refl, sym, ap, ◌∙◌, Bool, true, false, true≢false, List, [], ◌∷◌, map, Option, Some, None, ℕ, suc, arith}
use Rattle.std.proofs.lemmas.Bool.{and_parts}
use Rattle.sheet_model.specs.declared.value.Value.{Value}
use Rattle.sheet_funcs.specs.Lookups.{is_key, is_greater_than, is_less_than, last_place, found}
use Rattle.sheet_funcs.specs.declared.lookups.MatchKind.{MatchKind}
use Rattle.sheet_funcs.specs.declared.lookups.MatchKind.TheVariants.{Equal, Rising, Falling}
use Rattle.affine_forms.specs.Forms.{Assignment}
use Rattle.form_values.specs.Meaning.{abs_at}
use Rattle.form_values.specs.declared.abs.Abs.{Abs}
use Rattle.form_values.specs.declared.abs.Abs.TheVariants.{Known, Affine, Test}
use Rattle.form_values.specs.Known.{is_known}
use Rattle.form_table.specs.Lookups.{front, ends_within, is_never_found}

-- ---- what stands before the first value that passes a test
one_further : (n : ℕ) (v : Value) (vs : List Value) → take (1 + n) (v ∷ vs) ≡ v ∷ take n vs
one_further n v vs = let more : 1 + n ≡ suc n = omega arith in ap (λ m. take m (v ∷ vs)) more

module _ (test : Value → Bool) where
  pub first_passes : (v : Value) (vs : List Value) → test v ≡ true → before_first test (v ∷ vs) ≡ []
  first_passes v vs e = ap (λ b. take (cond (not b) (1 + position_or_len test vs) 0) (v ∷ vs)) e

  pub first_fails : (v : Value) (vs : List Value) → test v ≡ false → before_first test (v ∷ vs) ≡ v ∷ before_first test vs
  first_fails v vs e = ap (λ b. take (cond (not b) (1 + position_or_len test vs) 0) (v ∷ vs)) e ∙ one_further (position_or_len test vs) v vs

  -- it is among the keys before the first open one, where one of them passes
  same_before : (x : Assignment) (items : List Abs) → list_any test (front items) ≡ true → before_first test (map (abs_at x) items) ≡ before_first test (front items)
  same_before x [] h = absurd (true≢false (sym h))
  same_before x (Known v ∷ items) h = by_test (same_before x items) (test v) refl h
    where
      by_test : (list_any test (front items) ≡ true → before_first test (map (abs_at x) items) ≡ before_first test (front items))
          → (b : Bool) → test v ≡ b → (b || list_any test (front items)) ≡ true → before_first test (v ∷ map (abs_at x) items) ≡ before_first test (v ∷ front items)
      by_test others true e h = first_passes v (map (abs_at x) items) e ∙ sym (first_passes v (front items) e)
      by_test others false e h = first_fails v (map (abs_at x) items) e ∙ ap (λ vs. v ∷ vs) (others h) ∙ sym (first_fails v (front items) e)
  same_before x (Affine f ∷ items) h = absurd (true≢false (sym h))
  same_before x (Test f r ∷ items) h = absurd (true≢false (sym h))

-- ---- a search
front_is : (x : Assignment) (items : List Abs) → list_all is_known items ≡ true → map (abs_at x) items ≡ front items
front_is x [] e = refl
front_is x (Known v ∷ items) e = ap (λ vs. v ∷ vs) (front_is x items e)
front_is x (Affine f ∷ items) e = absurd (true≢false (sym e))
front_is x (Test f r ∷ items) e = absurd (true≢false (sym e))

ended : (x : Assignment) (kind : MatchKind) (key : Value) (items : List Abs) → ends_within kind key (front items) ≡ true → found kind key (map (abs_at x) items) ≡ found kind key (front items)
ended x Equal key items h = absurd (true≢false (sym h))
ended x Rising key items h = ap (last_place is_key) (same_before (is_greater_than key) x items h)
ended x Falling key items h = ap (last_place is_key) (same_before (is_less_than key) x items h)

none_there : (o : Option ℕ) → is_none o ≡ true → o ≡ None
none_there None h = refl
none_there (Some i) h = absurd (true≢false (sym h))

pub never_found_right : (x : Assignment) (kind : MatchKind) (key : Value) (items : List Abs) → is_never_found kind key items ≡ true → found kind key (map (abs_at x) items) ≡ None
never_found_right x kind key items h =
    let b = and_parts (list_all is_known items || ends_within kind key (front items)) (is_none (found kind key (front items))) h in
    by_test (list_all is_known items) refl b.0 ∙ none_there (found kind key (front items)) b.1
  where
    by_test : (p : Bool) → list_all is_known items ≡ p → (p || ends_within kind key (front items)) ≡ true → found kind key (map (abs_at x) items) ≡ found kind key (front items)
    by_test true e h = ap (found kind key) (front_is x items e)
    by_test false e h = ended x kind key items h
