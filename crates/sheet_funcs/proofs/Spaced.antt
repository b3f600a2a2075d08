-- Elements that stand at even steps.
use Rattle.std.proofs.Common.{◌≡◌, ℕ, ◌+◌, ◌*◌, ◌<◌, refl, sym, ap, ◌∙◌, List, [], ◌∷◌, ◌++◌, length, get_or, map, arith}
use Rattle.std.proofs.lemmas.List.FromFn.{length-map-range_with_len, get_or-map-range_with_len, map-range_with_len_more, fill_by_all}
use Rattle.sheet_model.specs.declared.value.Value.{Value}
use Rattle.sheet_model.specs.declared.value.Value.TheVariants.{Empty}
use Rattle.sheet_funcs.specs.Arguments.{below}
use Rattle.sheet_funcs.specs.Searches.{spaced}

-- so many
pub length-spaced : (items : List Value) (step count : ℕ) → length (spaced items step count) ≡ count
length-spaced items step count = length-map-range_with_len (λ place. get_or items (place * step) Empty) 0 count

-- the one at a place
pub spaced_at : (items : List Value) (step count place : ℕ) → place < count → get_or (spaced items step count) place Empty ≡ get_or items (place * step) Empty
spaced_at items step count place h = get_or-map-range_with_len (λ p. get_or items (p * step) Empty) 0 count place place Empty h (omega arith)

-- one more
pub spaced_more : (items : List Value) (step count : ℕ) → spaced items step (count + 1) ≡ spaced items step count ++ get_or items (count * step) Empty ∷ []
spaced_more items step count = map-range_with_len_more (λ p. get_or items (p * step) Empty) 0 count count (omega arith)

-- all elements at the step 1
pub spaced_one : (items : List Value) → spaced items 1 (length items) ≡ items
spaced_one items = sym (fill_by_all (λ p. get_or items (p * 1) Empty) items (length items) Empty refl (λ k h. ap (λ i. get_or items i Empty) (omega arith)))

-- lists from equal functions
pub same_below : {A : Type 0} (f g : ℕ → A) (n : ℕ) (d : A) → ((k : ℕ) → k < n → f k ≡ g k) → map f (below n) ≡ map g (below n)
same_below f g n d h =
    fill_by_all g (map f (below n)) n d (length-map-range_with_len f 0 n) (λ k l. get_or-map-range_with_len f 0 n k k d l (omega arith) ∙ h k l)
