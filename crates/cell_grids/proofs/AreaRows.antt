-- The cells of areas row by row.
use Rattle.std.proofs.Common.{◌≡◌, ◌<◌, ◌≤◌, ◌+◌, ◌*◌, ◌++◌, ℕ, zero, suc, List, [], ◌∷◌, map, sym, ap, ◌∙◌, append_assoc, arith}
use Rattle.std.specs.List.{range_with_len}
use Rattle.std.proofs.lemmas.List.{append-nil}
use Rattle.std.proofs.lemmas.List.FromFn.{map-range_with_len_more}
use Rattle.std.proofs.lemmas.Nat.{div-mul-add, mod-mul-add}
use Rattle.cell_refs.specs.declared.cell.Cell.{Cell}
use Rattle.cell_refs.specs.Areas.{Area, area_width, cell_at}
use Rattle.cell_grids.specs.AreaRows.{cell_of_row, first_of_row, row_cells}

-- one cell more of a row
pub one_in_row : (a : Area) (row n column : ℕ) (cell : Cell) (old now more : List Cell) → a.left + n ≡ column → cell ≡ cell_of_row a row n
    → now ≡ old ++ first_of_row a row n → more ≡ now ++ cell ∷ [] → more ≡ old ++ first_of_row a row (n + 1)
one_in_row a row n column cell old now more at is e f =
    f ∙ (λ i. e i ++ is i ∷ []) ∙ append_assoc old (first_of_row a row n) (cell_of_row a row n ∷ [])
    ∙ ap (λ cells. old ++ cells) (sym (map-range_with_len_more (cell_of_row a row) 0 n n (omega arith)))

-- the cell at a place, by its row and its column
at_place : (a : Area) (i n : ℕ) → n < area_width a → cell_of_row a (a.top + i) n ≡ cell_at a (i * area_width a + n)
at_place a i n less =
    λ j. record { sheet = a.sheet; row = a.top + sym (div-mul-add i (area_width a) n less) j; col = a.left + sym (mod-mul-add i (area_width a) n less) j }

-- the cells of some rows, and the first ones of the next
first_rows : (a : Area) (i n : ℕ) → n ≤ area_width a
    → map (cell_at a) (range_with_len 0 (i * area_width a)) ++ first_of_row a (a.top + i) n ≡ map (cell_at a) (range_with_len 0 (i * area_width a + n))
first_rows a i zero less = append-nil (map (cell_at a) (range_with_len 0 (i * area_width a))) ∙ ap (λ m. map (cell_at a) (range_with_len 0 m)) (omega arith)
first_rows a i (suc n) less =
    ap (λ m. map (cell_at a) (range_with_len 0 (i * area_width a)) ++ first_of_row a (a.top + i) m) (one_up n)
    ∙ ap (λ cells. map (cell_at a) (range_with_len 0 (i * area_width a)) ++ cells) (map-range_with_len_more (cell_of_row a (a.top + i)) 0 n n (omega arith))
    ∙ sym (append_assoc (map (cell_at a) (range_with_len 0 (i * area_width a))) (first_of_row a (a.top + i) n) (cell_of_row a (a.top + i) n ∷ []))
    ∙ (λ j. first_rows a i n (omega (arith, less)) j ++ at_place a i n (omega (arith, less)) j ∷ [])
    ∙ sym (map-range_with_len_more (cell_at a) 0 (i * area_width a + n) (i * area_width a + n) (omega arith))
    ∙ ap (λ m. map (cell_at a) (range_with_len 0 m)) (further (i * area_width a) n)
  where
    one_up : (n : ℕ) → suc n ≡ n + 1
    one_up n = omega arith

    further : (m n : ℕ) → m + n + 1 ≡ m + suc n
    further m n = omega arith

-- one row more
pub one_row_more : (a : Area) (i : ℕ) → map (cell_at a) (range_with_len 0 (i * area_width a)) ++ row_cells a (a.top + i) ≡ map (cell_at a) (range_with_len 0 ((i + 1) * area_width a))
one_row_more a i = first_rows a i (area_width a) (omega arith) ∙ ap (λ m. map (cell_at a) (range_with_len 0 m)) (next i (area_width a))
  where
    next : (i w : ℕ) → i * w + w ≡ (i + 1) * w
    next i w = omega arith

-- behind what was there
pub one_row : (a : Area) (i row : ℕ) (old now more : List Cell) → a.top + i ≡ row → now ≡ old ++ map (cell_at a) (range_with_len 0 (i * area_width a))
    → more ≡ now ++ row_cells a row → more ≡ old ++ map (cell_at a) (range_with_len 0 ((i + 1) * area_width a))
one_row a i row old now more at e f =
    f ∙ (λ j. e j ++ row_cells a (sym at j)) ∙ append_assoc old (map (cell_at a) (range_with_len 0 (i * area_width a))) (row_cells a (a.top + i))
    ∙ ap (λ cells. old ++ cells) (one_row_more a i)
