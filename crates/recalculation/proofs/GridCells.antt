-- The cells of a grid and their values, by rows and columns.
use Rattle.std.proofs.Common.{◌≡◌, ℕ, zero, suc, ◌+◌, ◌*◌, ◌<◌, ◌≤◌, List, [], ◌∷◌, ◌++◌, length, refl, sym, ap, subst, ◌∙◌, arith}
use Rattle.std.specs.Prelude.{map, flat_map, slice_get, slice_index_or, option_to_list}
use Rattle.std.specs.List.{AllByRecursion, range_with_len}
use Rattle.std.proofs.lemmas.Nat.{mul-add-lt}
use Rattle.cell_refs.specs.declared.cell.Cell.{Cell}
use Rattle.cell_refs.specs.Areas.{Area, area_height, area_width, area_len, cell_at, cells_of}
use Rattle.sheet_model.specs.Grids.{Rectangle}
use Rattle.sheet_model.specs.declared.value.Value.{Value}
use Rattle.sheet_model.specs.declared.value.Value.TheVariants.{Empty}
use Rattle.sheet_funcs.specs.Arguments.{at, below, column_of}
use Rattle.sheet_funcs.specs.Products.{places_of, transposed}
use Rattle.recalculation.specs.Evaluation.{CellGrid, grid_of_areas, values_in}
use Rattle.recalculation.specs.Looks.{cell_in, column_cells, exchanged}
use Rattle.recalculation.proofs.Lists.{each_append, each_weaker}

-- there is a cell in each row and column
abbrev pub IsWhole : CellGrid → Type 0
IsWhole g = (row column : ℕ) → row < g.rows → column < g.columns → row * g.columns + column < length g.cells

-- as many elements as before
length_map : {A B : Type 0} (f : A → B) (xs : List A) → length (map f xs) ≡ length xs
length_map f [] = refl
length_map f (x ∷ xs) = ap suc (length_map f xs)

-- as many numbers as are asked for
length_range : (a n : ℕ) → length (range_with_len a n) ≡ n
length_range a zero = refl
length_range a (suc n) = ap suc (length_range (a + 1) n)

-- an area has a cell in each of its rows and columns
area_whole : (a : Area) → IsWhole (grid_of_areas (a ∷ []))
area_whole a row column r c =
    let len : length (cells_of a) ≡ area_len a = length_map (cell_at a) (range_with_len 0 (area_len a)) ∙ length_range 0 (area_len a) in
    let below : row * area_width a + column < area_width a * area_height a = mul-add-lt row (area_width a) column (area_height a) r c in
    subst (λ n. row * area_width a + column < n) (sym (len ∙ omega arith)) below

-- and so has the grid of some areas
pub areas_whole : (areas : List Area) → IsWhole (grid_of_areas areas)
areas_whole [] row column r c = absurd (omega arith)
areas_whole (a ∷ []) row column r c = area_whole a row column r c
areas_whole (a ∷ b ∷ areas) row column r c = omega arith

-- the value of the cell at a place
got_value : (f : Cell → Value) (cells : List Cell) (n : ℕ) → n < length cells → map f (option_to_list (slice_get cells n)) ≡ slice_index_or (map f cells) n Empty ∷ []
got_value f [] n h = absurd (omega arith)
got_value f (b ∷ cells) zero h = refl
got_value f (b ∷ cells) (suc n) h = got_value f cells n (omega arith)

-- what is made of two lists
pub map_append : {A B : Type 0} (f : A → B) (xs ys : List A) → map f (xs ++ ys) ≡ map f xs ++ map f ys
map_append f [] ys = refl
map_append f (x ∷ xs) ys = ap (λ zs. f x ∷ zs) (map_append f xs ys)

-- the values of cells each of which has one in its place
pub gathered : {A : Type 0} (f : Cell → Value) (cell : A → List Cell) (value : A → Value) (xs : List A) → AllByRecursion (λ x. map f (cell x) ≡ value x ∷ []) xs
    → map f (flat_map cell xs) ≡ map value xs
gathered f cell value [] h = refl
gathered f cell value (x ∷ xs) h =
    map_append f (cell x) (flat_map cell xs) ∙ ap (λ vs. vs ++ map f (flat_map cell xs)) h.0 ∙ ap (λ vs. value x ∷ vs) (gathered f cell value xs h.1)

-- the numbers of a range are below its end
pub range_below : (n a m : ℕ) → a + m ≤ n → AllByRecursion (λ k. k < n) (range_with_len a m)
range_below n a zero h = tt
range_below n a (suc m) h = (omega arith, range_below n (a + 1) m (omega arith))

-- those below n are
pub each_below : (n : ℕ) → AllByRecursion (λ k. k < n) (below n)
each_below n = range_below n 0 n (omega arith)

module _ (f : Cell → Value) (g : CellGrid) (whole : IsWhole g) where
  -- the value of the cell in a row and a column
  pub cell_value_in : (row column : ℕ) → row < g.rows → column < g.columns → map f (cell_in g row column) ≡ at (values_in f g) row column ∷ []
  cell_value_in row column r c = got_value f g.cells (row * g.columns + column) (whole row column r c)

  -- the values of the first column
  pub first_column : 0 < g.columns → map f (column_cells g 0) ≡ column_of (values_in f g) 0
  first_column some =
      gathered f (λ row. cell_in g row 0) (λ row. at (values_in f g) row 0) (below g.rows)
      (each_weaker (λ row. row < g.rows) (λ row. map f (cell_in g row 0) ≡ at (values_in f g) row 0 ∷ []) (λ row r. cell_value_in row 0 r some) (below g.rows) (each_below g.rows))

-- ---- rows and columns exchanged
pub each_map : {A B : Type 0} (P : B → Type 0) (f : A → B) (xs : List A) → AllByRecursion (λ x. P (f x)) xs → AllByRecursion P (map f xs)
each_map P f [] h = tt
each_map P f (x ∷ xs) h = (h.0, each_map P f xs h.1)

-- a place in some rows and columns
abbrev IsPlace : ℕ → ℕ → ℕ × ℕ → Type 0
IsPlace rows columns p = (p.0 < rows) × (p.1 < columns)

-- the places of some rows
places_below : (rows columns : ℕ) (some : List ℕ) → AllByRecursion (λ row. row < rows) some → AllByRecursion (IsPlace rows columns) (flat_map (λ row. map (λ column. (row, column)) (below columns)) some)
places_below rows columns [] h = tt
places_below rows columns (row ∷ some) h =
    each_append (IsPlace rows columns) (map (λ column. (row, column)) (below columns)) _
    (each_map (IsPlace rows columns) (λ column. (row, column)) (below columns) (each_weaker (λ column. column < columns) (λ column. IsPlace rows columns (row, column)) (λ column c. (h.0, c)) (below columns) (each_below columns)))
    (places_below rows columns some h.1)

-- those of one list and of another
length_append : {A : Type 0} (xs ys : List A) → length (xs ++ ys) ≡ length xs + length ys
length_append [] ys = omega arith
length_append (x ∷ xs) ys = let more = length_append xs ys in omega (arith, more)

-- how many places some rows have
places_count : (columns : ℕ) (rows : List ℕ) → length {A = ℕ × ℕ} (flat_map (λ row. map (λ column. (row, column)) (below columns)) rows) ≡ columns * length rows
places_count columns [] = omega arith
places_count columns (row ∷ rows) =
    length_append {A = ℕ × ℕ} (map (λ column. (row, column)) (below columns)) _
    ∙ (let one = length_map {B = ℕ × ℕ} (λ column. (row, column)) (below columns) ∙ length_range 0 columns in
    let others = places_count columns rows in
    omega (arith, one, others))

module _ (g : CellGrid) (whole : IsWhole g) where
  -- the values of the exchanged cells are the exchanged values
  pub exchanged_values : (f : Cell → Value) → values_in f (exchanged g) ≡ transposed (values_in f g)
  exchanged_values f =
      ap (λ items. record { rows = g.columns; columns = g.rows; items = items })
      (gathered f (λ (p : ℕ × ℕ). cell_in g p.1 p.0) (λ (p : ℕ × ℕ). at (values_in f g) p.1 p.0) (places_of g.columns g.rows)
      (each_weaker (IsPlace g.columns g.rows) (λ (p : ℕ × ℕ). map f (cell_in g p.1 p.0) ≡ at (values_in f g) p.1 p.0 ∷ [])
      (λ p h. cell_value_in f g whole p.1 p.0 h.1 h.0) (places_of g.columns g.rows) (places_below g.columns g.rows (below g.columns) (each_below g.columns))))

  -- there is a cell in each exchanged row and column
  pub exchanged_whole : IsWhole (exchanged g)
  exchanged_whole row column r c =
      let same = ap (λ (v : Rectangle). length v.items) (exchanged_values (λ b. Empty)) in
      let count : length (exchanged g).cells ≡ g.rows * g.columns =
      sym (length_map (λ (b : Cell). Empty) (exchanged g).cells) ∙ same
      ∙ length_map (λ (p : ℕ × ℕ). at (values_in (λ b. Empty) g) p.1 p.0) (places_of g.columns g.rows)
      ∙ places_count g.rows (below g.columns) ∙ ap (λ n. g.rows * n) (length_range 0 g.columns) in
      subst (λ n. row * g.rows + column < n) (sym count) (mul-add-lt row g.rows column g.columns r c)
