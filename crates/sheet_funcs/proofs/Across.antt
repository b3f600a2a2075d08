-- Rows and columns exchanged.
use Rattle.std.proofs.Common.{◌≡◌, ℕ, ◌+◌, ◌*◌, ◌<◌, zero, suc, ap, ◌∙◌, List, length, get_or, map, arith}
use Rattle.std.specs.List.{range_with_len, flat_map}
use Rattle.std.proofs.lemmas.List.{get_or_append_left, get_or-append-add, get_or-map}
use Rattle.std.proofs.lemmas.List.FromFn.{length-map-range_with_len, get_or-map-range_with_len}
use Rattle.sheet_model.specs.Grids.{Rectangle}
use Rattle.sheet_model.specs.declared.value.Value.TheVariants.{Empty}
use Rattle.sheet_funcs.specs.Arguments.{at, below}
use Rattle.sheet_funcs.specs.Products.{places_of, transposed}
use Rattle.sheet_funcs.proofs.Parts.{lengths_of_rows}

-- an element of lists of one length, one behind the other
module _ {A : Type 0} (f : ℕ → List A) (n : ℕ) (lengths : (k : ℕ) → length (f k) ≡ n) where
  row_at : (a m r c : ℕ) (d : A) → r < m → c < n → get_or (flat_map f (range_with_len a m)) (r * n + c) d ≡ get_or (f (a + r)) c d
  row_at a zero r c d h l = absurd (omega arith)
  row_at a (suc m) zero c d h l =
      let e : c < length (f a) = rw (lengths a) l in
      let i : zero * n + c ≡ c = omega arith in
      let j : a + zero ≡ a = omega arith in
      rw (i, j) (get_or_append_left (f a) (flat_map f (range_with_len (a + 1) m)) d c e)
  row_at a (suc m) (suc r) c d h l =
      let i : suc r * n + c ≡ length (f a) + (r * n + c) = rw (lengths a) (omega arith) in
      let j : a + suc r ≡ a + 1 + r = omega arith in
      rw (i, j) (get_or-append-add (f a) (flat_map f (range_with_len (a + 1) m)) (r * n + c) d ∙ row_at (a + 1) m r c d (omega arith) l)

-- a place by its row and its column
place_at : (m n r c : ℕ) (d : ℕ × ℕ) → r < m → c < n → get_or (places_of m n) (r * n + c) d ≡ (r, c)
place_at m n r c d h l =
    row_at (λ row. map (λ column. (row, column)) (below n)) n (λ k. length-map-range_with_len (λ column. (k, column)) 0 n) 0 m r c d h l
    ∙ get_or-map-range_with_len (λ column. (0 + r, column)) 0 n c c d l (omega arith)
    ∙ ap (λ k. (k, c)) (omega arith)

-- a place by its row and its column is among them
places_within : (m n r c : ℕ) → r < m → c < n → r * n + c < length (places_of m n)
places_within m n r c h l =
    let e : length (places_of m n) ≡ m * n = lengths_of_rows (λ row. map (λ column. (row, column)) (below n)) n 0 m (λ k. length-map-range_with_len (λ column. (k, column)) 0 n) in
    rw e (grind arith)

-- what was at a column and a row
pub transposed_at : (g : Rectangle) (row column : ℕ) → row < g.columns → column < g.rows → at (transposed g) row column ≡ at g column row
transposed_at g row column h l =
    let f = λ (place : ℕ × ℕ). at g place.1 place.0 in
    get_or-map f (places_of g.columns g.rows) (row * g.rows + column) (0, 0) Empty (places_within g.columns g.rows row column h l)
    ∙ ap f (place_at g.columns g.rows row column (0, 0) h l)
