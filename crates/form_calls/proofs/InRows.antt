-- Places in rows and columns.
use Rattle.std.proofs.Common.{◌≡◌, ℕ, suc, ◌+◌, ◌-◌, ◌*◌, ◌≤◌, List, [], ◌∷◌, ◌++◌, length, map, sym, ap, ap₂, ◌∙◌, append_assoc, length-append, arith}
use Rattle.std.specs.Prelude.{flat_map}
use Rattle.std.specs.List.{range_with_len}
use Rattle.std.proofs.lemmas.List.{length-map}
use Rattle.std.proofs.lemmas.List.FromFn.{length-range_with_len, map-range_with_len_more}
use Rattle.sheet_funcs.specs.Arguments.{below}
use Rattle.sheet_funcs.specs.Picks.{from_to}

-- one place more behind the others
pub range_place_more : {A : Type 0} (f : ℕ → A) (front now new : List A) (first i : ℕ) → first ≤ i → now ≡ front ++ map f (range_with_len first (i - first)) → new ≡ now ++ f i ∷ []
    → new ≡ front ++ map f (range_with_len first (i + 1 - first))
range_place_more f front now new first i h all more =
    let n = i - first in
    let next : n + 1 ≡ i + 1 - first = omega arith in
    more ∙ ap (λ ys. ys ++ f i ∷ []) all ∙ append_assoc front (map f (range_with_len first n)) (f i ∷ [])
    ∙ ap (λ ys. front ++ ys) (sym (map-range_with_len_more f first n i (omega arith)) ∙ ap (λ m. map f (range_with_len first m)) next)

-- how many places there are in some rows and columns
in_rows : (f : ℕ → ℕ → ℕ) (columns rows : List ℕ) → length (flat_map (λ row. map (f row) columns) rows) ≡ length rows * length columns
in_rows f columns [] = omega arith
in_rows f columns (row ∷ rows) =
    let one : length (map (f row) columns) ≡ length columns = length-map columns (f row) in
    let others = in_rows f columns rows in
    length-append (map (f row) columns) (flat_map (λ row. map (f row) columns) rows) ∙ ap₂ (λ m n. m + n) one others ∙ more (length rows) (length columns)
  where
    more : (m n : ℕ) → n + m * n ≡ suc m * n
    more m n = omega arith

pub count_places : (f : ℕ → ℕ → ℕ) (top left bottom right : ℕ) → length (flat_map (λ row. map (f row) (from_to left right)) (from_to top bottom)) ≡ (bottom + 1 - top) * (right + 1 - left)
count_places f top left bottom right =
    in_rows f (from_to left right) (from_to top bottom) ∙ ap₂ (λ m n. m * n) (length-range_with_len top (bottom + 1 - top)) (length-range_with_len left (right + 1 - left))

-- one row more
pub key_more : {A : Type 0} (f : ℕ → A) (now new : List A) (i : ℕ) → now ≡ map f (below i) → new ≡ now ++ f i ∷ [] → new ≡ map f (below (i + 1))
key_more f now new i all more = more ∙ ap (λ ys. ys ++ f i ∷ []) all ∙ sym (map-range_with_len_more f 0 i i (omega arith))
