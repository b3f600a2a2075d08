-- The cells of rows and columns.
use Rattle.std.proofs.Common.{◌≡◌, ℕ, ◌+◌, ◌-◌, ◌*◌, ◌<◌, ◌≤◌, List, [], ◌∷◌, ◌++◌, length, map, refl, sym, ap, subst, ◌∙◌, append_assoc, zero-add, mul_comm, arith}
use Rattle.std.specs.Prelude.{flat_map}
use Rattle.std.specs.List.{range_with_len}
use Rattle.std.proofs.lemmas.List.{length-map}
use Rattle.std.proofs.lemmas.List.Concat.{flat_map-append}
use Rattle.std.proofs.lemmas.List.FromFn.{length-map-range_with_len}
use Rattle.std.proofs.lemmas.Nat.{mul-add-lt}
use Rattle.cell_refs.specs.declared.cell.Cell.{Cell}
use Rattle.sheet_model.specs.Grids.{Rectangle}
use Rattle.sheet_model.specs.declared.value.Value.TheVariants.{Empty}
use Rattle.sheet_funcs.specs.Arguments.{at, below}
use Rattle.sheet_funcs.proofs.Parts.{rows_more}
use Rattle.sheet_funcs.proofs.Ranges.{length-transposed}
use Rattle.recalculation.specs.Evaluation.{CellGrid, values_in}
use Rattle.recalculation.specs.Looks.{cell_in, column_cells, exchanged}
use Rattle.recalculation.proofs.GridCells.{IsWhole, exchanged_values, first_column}
use Rattle.cell_grids.specs.Full.{IsFullGrid}

-- one part more behind the others
pub range_part_more : {A : Type 0} (f : ℕ → List A) (front now new part : List A) (first i : ℕ) → first ≤ i → now ≡ front ++ flat_map f (range_with_len first (i - first)) → new ≡ now ++ part → part ≡ f i
    → new ≡ front ++ flat_map f (range_with_len first (i + 1 - first))
range_part_more f front now new part first i h all more here =
    let n = i - first in
    let at : first + n ≡ i = omega arith in
    let next : n + 1 ≡ i + 1 - first = omega arith in
    more ∙ ap (λ ys. ys ++ part) all ∙ append_assoc front (flat_map f (range_with_len first n)) part
    ∙ ap (λ ys. front ++ ys)
    (ap (λ ys. flat_map f (range_with_len first n) ++ ys) (here ∙ ap f (sym at)) ∙ rows_more f first n ∙ ap (λ m. flat_map f (range_with_len first m)) next)

-- the same of those from 0 on
pub below_more : {A : Type 0} (f : ℕ → List A) (front now new part : List A) (i : ℕ) → now ≡ front ++ flat_map f (below i) → new ≡ now ++ part → part ≡ f i → new ≡ front ++ flat_map f (below (i + 1))
below_more f front now new part i all more here =
    more ∙ ap (λ ys. ys ++ part) all ∙ append_assoc front (flat_map f (below i)) part
    ∙ ap (λ ys. front ++ ys) (ap (λ ys. flat_map f (below i) ++ ys) (here ∙ ap f (sym (zero-add i))) ∙ rows_more f 0 i)

-- ---- rows and columns exchanged
-- lists made of the places of some columns
by_columns : {A : Type 0} (f : ℕ → ℕ → List A) (rows : List ℕ) (columns : List ℕ)
    → flat_map (λ (p : ℕ × ℕ). f p.1 p.0) (flat_map (λ column. map (λ row. (column, row)) rows) columns) ≡ flat_map (λ column. flat_map (λ row. f row column) rows) columns
by_columns f rows [] = refl
by_columns f rows (column ∷ columns) =
    flat_map-append (λ (p : ℕ × ℕ). f p.1 p.0) (map (λ row. (column, row)) rows) (flat_map (λ column. map (λ row. (column, row)) rows) columns)
    ∙ ap (λ ys. ys ++ flat_map (λ (p : ℕ × ℕ). f p.1 p.0) (flat_map (λ column. map (λ row. (column, row)) rows) columns)) (in_column rows)
    ∙ ap (λ ys. flat_map (λ row. f row column) rows ++ ys) (by_columns f rows columns)
  where
    in_column : (some : List ℕ) → flat_map (λ (p : ℕ × ℕ). f p.1 p.0) (map {B = ℕ × ℕ} (λ row. (column, row)) some) ≡ flat_map (λ row. f row column) some
    in_column [] = refl
    in_column (row ∷ some) = ap (λ ys. f row column ++ ys) (in_column some)

-- the exchanged cells are those of the columns
pub exchanged_columns : (g : CellGrid) → (exchanged g).cells ≡ flat_map (column_cells g) (below g.columns)
exchanged_columns g = by_columns (cell_in g) (below g.rows) (below g.columns)

-- ---- full grids
-- there is a cell in each row and column
pub full_whole : (g : CellGrid) → IsFullGrid g → IsWhole g
full_whole g full row column r c =
    subst (λ n. row * g.columns + column < n) (sym (full.size ∙ mul_comm g.rows g.columns)) (mul-add-lt row g.columns column g.rows r c)

-- how many cells the first column has
pub count_keys : (g : CellGrid) → IsFullGrid g → length (column_cells g 0) ≡ g.rows
count_keys g full =
    let value = λ (b : Cell). Empty in
    sym (length-map (column_cells g 0) value) ∙ ap length (first_column value g (full_whole g full) full.some_columns) ∙ length-map-range_with_len (λ row. at (values_in value g) row 0) 0 g.rows

-- what is exchanged is full
pub exchanged_full : (g : CellGrid) → IsFullGrid g → IsFullGrid (exchanged g)
exchanged_full g full = record {
  some_rows = full.some_columns;
  some_columns = full.some_rows;
  size =
      let value = λ (b : Cell). Empty in
      sym (length-map (exchanged g).cells value) ∙ ap (λ (v : Rectangle). length v.items) (exchanged_values g (full_whole g full) value)
      ∙ length-transposed (values_in value g);
}

-- the cells of the exchanged rows and columns of a full grid
pub exchanged_parts : (g now : CellGrid) (cells : List Cell) → g ≡ now → cells ≡ (exchanged now).cells → IsFullGrid g → IsFullGrid (record { rows = g.columns; columns = g.rows; cells = cells })
exchanged_parts g now cells same all full =
    subst (λ bs. IsFullGrid (record { rows = g.columns; columns = g.rows; cells = bs })) (sym (all ∙ ap (λ h. (exchanged h).cells) (sym same))) (exchanged_full g full)
