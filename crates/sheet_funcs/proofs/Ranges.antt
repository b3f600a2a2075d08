-- Whole numbers from one below another, and the places of a grid.
use Rattle.std.proofs.Common.{◌≡◌, ◌<◌, ◌≤◌, ◌+◌, ◌*◌, ◌-◌, arith, refl, sym, ap, ◌∙◌, append_assoc, append-nil, ℕ, zero, suc, List, [], ◌∷◌, ◌++◌, length, length-append, map}
use Rattle.std.specs.Prelude.{flat_map}
use Rattle.std.specs.List.{range_with_len}
use Rattle.std.proofs.lemmas.List.{map-append}
use Rattle.std.proofs.lemmas.Simd.{map-map}
use Rattle.std.proofs.lemmas.List.FromFn.{length-map-range_with_len}
use Rattle.sheet_model.specs.Grids.{Rectangle}
use Rattle.sheet_funcs.specs.Arguments.{at, below, column_of}
use Rattle.sheet_funcs.specs.Products.{places_of, transposed}

-- so many numbers from i on
one_more : (i k n : ℕ) → n ≡ suc k → range_with_len i n ≡ i ∷ range_with_len (i + 1) k
one_more i k n e = ap (range_with_len i) e

-- those from i below n
pub from_below : (i n : ℕ) → i < n → range_with_len i (n - i) ≡ i ∷ range_with_len (i + 1) (n - (i + 1))
from_below i n h = one_more i (n - (i + 1)) (n - i) (omega arith)

-- none from n on
pub from_end : (i n : ℕ) → n ≤ i → range_with_len i (n - i) ≡ []
from_end i n h = let none : n - i ≡ 0 = omega arith in ap (range_with_len i) none

-- all of them
pub all_below : (n : ℕ) → range_with_len 0 (n - 0) ≡ below n
all_below n = let all : n - 0 ≡ n = omega arith in ap (range_with_len 0) all

-- ---- rows of equal length
suc_rows : (a b c n columns : ℕ) → c ≡ a + b → a ≡ columns → b ≡ n * columns → c ≡ suc n * columns
suc_rows a b c n columns e f g = omega arith

pub length-rows : {A : Type 0} (row : ℕ → List A) (columns a n : ℕ) → ((r : ℕ) → length (row r) ≡ columns) → length (flat_map row (range_with_len a n)) ≡ n * columns
length-rows row columns a zero h = omega arith
length-rows row columns a (suc n) h =
    suc_rows _ _ _ n columns (length-append (row a) (flat_map row (range_with_len (a + 1) n))) (h a) (length-rows row columns (a + 1) n h)

pub length-places : (rows columns : ℕ) → length (places_of rows columns) ≡ rows * columns
length-places rows columns = length-rows (λ row. map (λ column. (row, column)) (below columns)) columns 0 rows (λ row. length-map-range_with_len (λ column. (row, column)) 0 columns)

-- ---- what is put behind other items, part by part
pub parts_go : {A : Type 0} (part : ℕ → List A) (whole items new : List A) (i n : ℕ) → i < n → whole ≡ items ++ flat_map part (range_with_len i (n - i)) → new ≡ items ++ part i
    → whole ≡ new ++ flat_map part (range_with_len (i + 1) (n - (i + 1)))
parts_go part whole items new i n h all more =
    all ∙ ap (λ r. items ++ flat_map part r) (from_below i n h) ∙ sym (append_assoc items (part i) (flat_map part (range_with_len (i + 1) (n - (i + 1)))))
    ∙ ap (λ front. front ++ flat_map part (range_with_len (i + 1) (n - (i + 1)))) (sym more)

pub parts_end : {A : Type 0} (part : ℕ → List A) (whole items : List A) (i n : ℕ) → n ≤ i → whole ≡ items ++ flat_map part (range_with_len i (n - i)) → items ≡ whole
parts_end part whole items i n h all = sym (all ∙ ap (λ r. items ++ flat_map part r) (from_end i n h) ∙ append-nil items)

-- the same of single items
pub items_go : {A : Type 0} (item : ℕ → A) (whole items new : List A) (x : A) (i n : ℕ) → i < n → whole ≡ items ++ map item (range_with_len i (n - i)) → new ≡ items ++ x ∷ [] → x ≡ item i
    → whole ≡ new ++ map item (range_with_len (i + 1) (n - (i + 1)))
items_go item whole items new x i n h all more same =
    all ∙ ap (λ r. items ++ map item r) (from_below i n h) ∙ sym (append_assoc items (item i ∷ []) (map item (range_with_len (i + 1) (n - (i + 1)))))
    ∙ ap (λ y. (items ++ y ∷ []) ++ map item (range_with_len (i + 1) (n - (i + 1)))) (sym same)
    ∙ ap (λ front. front ++ map item (range_with_len (i + 1) (n - (i + 1)))) (sym more)

pub items_end : {A : Type 0} (item : ℕ → A) (whole items : List A) (i n : ℕ) → n ≤ i → whole ≡ items ++ map item (range_with_len i (n - i)) → items ≡ whole
items_end item whole items i n h all = sym (all ∙ ap (λ r. items ++ map item r) (from_end i n h) ∙ append-nil items)

-- ---- a grid column by column
by_columns : (g : Rectangle) (columns : List ℕ) → map (λ (place : ℕ × ℕ). at g place.1 place.0) (flat_map (λ column. map (λ row. (column, row)) (below g.rows)) columns) ≡ flat_map (column_of g) columns
by_columns g [] = refl
by_columns g (c ∷ cs) =
    map-append (λ (place : ℕ × ℕ). at g place.1 place.0) (map (λ row. (c, row)) (below g.rows)) (flat_map (λ column. map (λ row. (column, row)) (below g.rows)) cs)
    ∙ ap (λ vs. vs ++ map (λ (place : ℕ × ℕ). at g place.1 place.0) (flat_map (λ column. map (λ row. (column, row)) (below g.rows)) cs)) (map-map (λ (place : ℕ × ℕ). at g place.1 place.0) (λ row. (c, row)) (below g.rows))
    ∙ ap (λ vs. column_of g c ++ vs) (by_columns g cs)

pub transposed-columns : (g : Rectangle) → (transposed g).items ≡ flat_map (column_of g) (below g.columns)
transposed-columns g = by_columns g (below g.columns)

pub length-transposed : (g : Rectangle) → length (transposed g).items ≡ g.columns * g.rows
length-transposed g = ap length (transposed-columns g) ∙ length-rows (column_of g) g.rows 0 g.columns (λ column. length-map-range_with_len (λ row. at g row column) 0 g.rows)
