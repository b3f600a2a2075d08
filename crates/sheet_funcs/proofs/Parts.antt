-- Parts of rows.
use Rattle.std.proofs.Common.{◌≡◌, ℕ, ◌+◌, ◌-◌, ◌<◌, ◌≤◌, refl, sym, ap, ◌∙◌, List, [], ◌∷◌, ◌++◌, length, get_or, take, drop, map, zero, suc, ◌*◌, zero-mul, suc-mul, mul-le-mul_right, append-nil, length-append, arith}
use Rattle.std.specs.List.{flat_map, range_with_len}
use Rattle.std.proofs.lemmas.List.{same_lists, get_or-take, get_or-drop, get_or_default, length-take-le, length-drop, map-id}
use Rattle.std.proofs.lemmas.List.Concat.{flat_map-append}
use Rattle.sheet_model.specs.Grids.{Rectangle, IsFull}
use Rattle.sheet_model.specs.declared.value.Value.{Value}
use Rattle.sheet_funcs.specs.Arguments.{at}
use Rattle.sheet_funcs.specs.Picks.{elements_in, from_to}
use Rattle.std.proofs.lemmas.List.FromFn.{length-map-range_with_len, get_or-map-range_with_len, map-range_with_len_more}

-- so many elements from a place on
pub part_is : {A : Type 0} (xs : List A) (base first n : ℕ) (e : A) → base + first + n ≤ length xs → take n (drop (base + first) xs) ≡ map (λ k. get_or xs (base + k) e) (range_with_len first n)
part_is xs base first n e h =
    let f = λ (k : ℕ). get_or xs (base + k) e in
    let size : length (take n (drop (base + first) xs)) ≡ n = length-take-le n (drop (base + first) xs) (rw length-drop (omega arith)) in
    same_lists _ _ (size ∙ sym (length-map-range_with_len f first n))
    (λ k d l.
    let m : k < n = rw size at l in
    let i : base + first + k ≡ base + (first + k) = omega arith in
    get_or-take n (drop (base + first) xs) k d m ∙ get_or-drop (base + first) xs k d ∙ get_or_default xs (base + first + k) d e (omega arith)
    ∙ ap (λ j. get_or xs j e) i ∙ sym (get_or-map-range_with_len f first n k (first + k) d m refl))

-- one whole number more
pub range_more : (a n : ℕ) → range_with_len a (n + 1) ≡ range_with_len a n ++ (a + n) ∷ []
range_more a n = sym (map-id (range_with_len a (n + 1))) ∙ map-range_with_len_more (λ k. k) a n (a + n) refl ∙ ap (λ xs. xs ++ (a + n) ∷ []) (map-id (range_with_len a n))

-- one list more of those that stand one behind the other
pub rows_more : {A : Type 0} (f : ℕ → List A) (first n : ℕ) → flat_map f (range_with_len first n) ++ f (first + n) ≡ flat_map f (range_with_len first (n + 1))
rows_more f first n =
    rw (range_more first n, flat_map-append f (range_with_len first n) ((first + n) ∷ []))
    (ap (λ xs. flat_map f (range_with_len first n) ++ xs) (sym (append-nil (f (first + n)))))

-- how long lists of one length are, one behind the other
pub lengths_of_rows : {A : Type 0} (f : ℕ → List A) (n first m : ℕ) → ((k : ℕ) → length (f k) ≡ n) → length (flat_map f (range_with_len first m)) ≡ m * n
lengths_of_rows f n first zero lengths = sym (zero-mul n)
lengths_of_rows f n first (suc m) lengths =
    let tail = lengths_of_rows f n (first + 1) m lengths in
    let head = lengths first in
    rw (length-append, tail, head) (omega (arith, suc-mul m n))

-- a part of a row lies among a grid's elements
pub row_within : (g : Rectangle) (row left right : ℕ) → IsFull g → row < g.rows → left ≤ right → right < g.columns → row * g.columns + left + (right + 1 - left) ≤ length g.items
row_within g row left right full h order l =
    let ends : suc row * g.columns ≤ g.rows * g.columns = mul-le-mul_right g.columns h in
    rw full.size (omega (arith, suc-mul row g.columns))

-- a part of a grid, and how many elements it has
pub part_size : (g : Rectangle) (top left bottom right : ℕ) → length (elements_in g top left bottom right) ≡ (bottom + 1 - top) * (right + 1 - left)
part_size g top left bottom right =
    lengths_of_rows (λ row. map (λ column. at g row column) (from_to left right)) (right + 1 - left) top (bottom + 1 - top)
    (λ row. length-map-range_with_len (λ column. at g row column) left (right + 1 - left))

-- it is a grid
pub part_full : (g : Rectangle) (top left bottom right : ℕ) (items : List Value) → top ≤ bottom → left ≤ right → items ≡ elements_in g top left bottom right
    → IsFull (record { rows = bottom + 1 - top; columns = right + 1 - left; items = items })
part_full g top left bottom right items h k e = record {
  some_rows = omega arith;
  some_columns = omega arith;
  size = ap length e ∙ part_size g top left bottom right;
}
