-- The cells of areas.
use Rattle.std.proofs.Common.{◌≡◌, ◌<◌, ◌+◌, ◌*◌, ◌++◌, ℕ, List, [], ◌∷◌, length, flat_map, sym, ap, ◌∙◌, length-append, arith}
use Rattle.std.proofs.lemmas.List.FromFn.{length-map-range_with_len}
use Rattle.cell_refs.specs.declared.cell.Cell.{Cell}
use Rattle.cell_refs.specs.Areas.{Area, area_height, area_len, area_width, cell_at, cells_of}
use Rattle.cell_grids.specs.Full.{IsFullGrid}

-- how many cells an area has
count : (a : Area) → length (cells_of a) ≡ area_len a
count a = length-map-range_with_len (cell_at a) 0 (area_len a)

-- an area has at least one cell
some_cells : (a : Area) → 0 < length (cells_of a)
some_cells a = rw (count a) (some a.further_rows a.further_columns)
  where
    some : (m n : ℕ) → 0 < (m + 1) * (n + 1)
    some m n = omega arith

-- so have some areas
pub some_in_all : (areas : List Area) → 0 < length areas → 0 < length (flat_map cells_of areas)
some_in_all [] h = absurd (omega arith)
some_in_all (a ∷ areas) h = rw length-append (omega (arith, some_cells a))

-- the cells of an area stand in its rows and columns
pub full_area : (a : Area) (rows columns : ℕ) (cells : List Cell) → rows ≡ area_height a → columns ≡ area_width a → cells ≡ [] ++ cells_of a
    → IsFullGrid (record { rows = rows; columns = columns; cells = cells })
full_area a rows columns cells r c e = record {
  some_rows = omega (arith, r);
  some_columns = omega (arith, c);
  size = ap length e ∙ count a ∙ sym (λ i. (r i) * (c i));
}
