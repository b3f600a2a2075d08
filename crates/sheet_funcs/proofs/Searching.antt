-- What a search finds.
use Rattle.std.proofs.Common.{◌≡◌, ℕ, ◌+◌, ◌*◌, ◌<◌, ◌≤◌, Bool, true, false, refl, sym, ap, ◌∙◌, List, [], ◌∷◌, ◌++◌, length, get_or, take, Option, Some, None, add-one, arith}
use Rattle.std.specs.Prelude.{nat_lt, if◌then◌else◌, IfSome}
use Rattle.std.specs.List.{before_first, position, position_or_len}
use Rattle.std.proofs.lemmas.Bool.Decides.{nat_tests}
use Rattle.std.proofs.lemmas.List.Sums.{position_or_len_is}
use Rattle.std.proofs.lemmas.List.FromFn.{take-map-range_with_len}
use Rattle.sheet_model.specs.declared.value.Value.{Value}
use Rattle.sheet_model.specs.declared.value.Value.TheVariants.{Empty}
use Rattle.sheet_funcs.specs.Lookups.{last_place}
use Rattle.sheet_funcs.specs.Searches.{spaced}
use Rattle.sheet_funcs.proofs.Spaced.{length-spaced, spaced_at, spaced_more}

-- a position below the length
position_at : {A : Type 0} (p : A → Bool) (xs : List A) (i : ℕ) → position_or_len p xs ≡ i → i < length xs → position p xs ≡ Some i
position_at p xs i e h =
    let t : nat_lt i (length xs) ≡ true = grind (arith, nat_tests) in
    rw (e, t) refl

-- no position
no_position : {A : Type 0} (p : A → Bool) (xs : List A) → position_or_len p xs ≡ length xs → position p xs ≡ None
no_position p xs e =
    let t : nat_lt (length xs) (length xs) ≡ false = grind (arith, nat_tests) in
    rw (e, t) refl

module _ (p : Value → Bool) (items : List Value) (step count : ℕ) where
  -- the first of so many elements that passes stands at this place
  first_is : (i : ℕ) → i ≤ count → ((k : ℕ) → k < i → p (get_or items (k * step) Empty) ≡ false) → (i < count → p (get_or items (i * step) Empty) ≡ true)
      → position_or_len p (spaced items step count) ≡ i
  first_is i h before here =
      position_or_len_is p (spaced items step count) i Empty (rw (length-spaced items step count) h)
      (λ k l. ap p (spaced_at items step count k (omega arith)) ∙ before k l)
      (λ l. let m : i < count = rw (length-spaced items step count) at l in ap p (spaced_at items step count i m) ∙ here m)

  -- it is found
  pub found_first : (i : ℕ) → i < count → ((k : ℕ) → k < i → p (get_or items (k * step) Empty) ≡ false) → p (get_or items (i * step) Empty) ≡ true
      → Some i ≡ position p (spaced items step count)
  found_first i h before here =
      sym (position_at p (spaced items step count) i (first_is i (omega arith) before (λ _. here)) (rw (length-spaced items step count) h))

  -- none is found
  pub found_none : ((k : ℕ) → k < count → p (get_or items (k * step) Empty) ≡ false) → None ≡ position p (spaced items step count)
  found_none before =
      sym (no_position p (spaced items step count) (first_is count (omega arith) before (λ l. absurd (omega arith)) ∙ sym (length-spaced items step count)))

  -- what stands before the first that passes
  pub before_place : (i : ℕ) → i ≤ count → ((k : ℕ) → k < i → p (get_or items (k * step) Empty) ≡ false) → (i < count → p (get_or items (i * step) Empty) ≡ true)
      → before_first p (spaced items step count) ≡ spaced items step i
  before_place i h before here =
      ap (λ n. take n (spaced items step count)) (first_is i h before here) ∙ take-map-range_with_len (λ place. get_or items (place * step) Empty) 0 count i h

-- the last place with one element more
last_with : (b : Bool) (test : Value → Bool) (x : Value) (xs : List Value) → test x ≡ b → last_place test (xs ++ x ∷ []) ≡ (if b then Some (length xs) else last_place test xs)
last_with true test x [] e = rw e refl
last_with false test x [] e = rw e refl
last_with true test x (y ∷ ys) e = rw (last_with true test x ys e, add-one) refl
last_with false test x (y ∷ ys) e = rw (last_with false test x ys e) refl

-- the last place among so many elements, where the next one passes and where it doesn't
pub last_here : (test : Value → Bool) (items : List Value) (step count : ℕ) (x : Value) → x ≡ get_or items (count * step) Empty → test x ≡ true
    → Some count ≡ last_place test (spaced items step (count + 1))
last_here test items step count x e t =
    rw (spaced_more items step count, ← e, last_with true test x (spaced items step count) t, length-spaced items step count) refl

pub last_so_far : (test : Value → Bool) (items : List Value) (step count : ℕ) (x : Value) → x ≡ get_or items (count * step) Empty → test x ≡ false
    → last_place test (spaced items step count) ≡ last_place test (spaced items step (count + 1))
last_so_far test items step count x e t =
    rw (spaced_more items step count, ← e, last_with false test x (spaced items step count) t) refl

-- a place below a count is below the next one
pub still_within : (o : Option ℕ) (n : ℕ) → IfSome o (λ place. place < n) → IfSome o (λ place. place < n + 1)
still_within None n h = h
still_within (Some place) n h = omega arith
