-- SUMPRODUCT, MMULT and TRANSPOSE (OpenDocument 1.2 part 2, sections 6.16.65, 6.5.4 and 6.5.6). Products of several numbers are
-- taken from the left, and each is added when it is made; the first error among the elements comes before everything else.
use Rattle.std.specs.Prelude.{ℕ, Bool, ◌&&◌, ◌==◌, if◌then◌else◌, List, [], ◌∷◌, ◌++◌, length, map, flat_map, slice_index_or}
use Rattle.std.specs.List.{list_all}
use Rattle.fractions.specs.Rational.{ℚ, zero_ℚ, one_ℚ}
use Rattle.calculations.specs.Calculation.{Calculation, sum, product, done, after, followed_by, turned_into, for_each, through}
use Rattle.cell_refs.specs.declared.error_kind.ErrorKind.TheVariants as kind
use Rattle.sheet_model.specs.Grids.{Rectangle}
use Rattle.sheet_model.specs.declared.value.Value.{Value}
use Rattle.sheet_model.specs.declared.value.Value.TheVariants.{Number, Empty, Error}
use Rattle.sheet_model.specs.declared.grid.Arg.{Arg}
use Rattle.sheet_model.specs.declared.grid.Arg.TheVariants.{Area}
use Rattle.sheet_funcs.specs.Arguments.{grid_of, at, below, first_error, answered, counted, unless}
use Rattle.sheet_funcs.specs.Sums.{is_number}

-- an element as a factor: what is no number counts as 0
abbrev pub factor : Value → ℚ
factor (Number x) = x
factor _ = zero_ℚ

-- the product of some numbers, from the left
abbrev pub product_of : List ℚ → Calculation ℚ
product_of [] = done one_ℚ
product_of (x ∷ xs) = through (λ so_far y. after (product so_far y) done) x xs

-- the sum of the products of some lists of factors
abbrev pub dot : List (List ℚ) → Calculation ℚ
dot lists = through (λ so_far factors. followed_by (product_of factors) (λ p. after (sum so_far p) done)) zero_ℚ lists

abbrev pub is_of_size : Rectangle → Rectangle → Bool
is_of_size g h = (g.rows == h.rows) && (g.columns == h.columns)

-- the elements of all grids
abbrev pub all_elements : List Rectangle → List Value
all_elements grids = flat_map (λ (g : Rectangle). g.items) grids

-- the factors of all grids in one place
abbrev pub factors_at : List Rectangle → ℕ → List ℚ
factors_at grids place = map (λ (g : Rectangle). factor (slice_index_or g.items place Empty)) grids

abbrev pub dot_of_grids : List Rectangle → Calculation Arg
dot_of_grids [] = answered (Error kind.Value)
dot_of_grids (g ∷ gs) =
    unless (first_error (all_elements (g ∷ gs)))
    (if list_all (is_of_size g) gs
    then counted (dot (map (factors_at (g ∷ gs)) (below (length g.items))))
    else answered (Error kind.Value))

abbrev pub sumproduct_of : List Arg → Calculation Arg
sumproduct_of args = dot_of_grids (map grid_of args)

-- the places of a grid, row by row
abbrev pub places_of : ℕ → ℕ → List (ℕ × ℕ)
places_of rows columns = flat_map (λ row. map (λ column. (row, column)) (below columns)) (below rows)

-- the element of a matrix product at a row and a column
abbrev pub product_at : Rectangle → Rectangle → ℕ × ℕ → Calculation ℚ
product_at g h place = dot (map (λ k. factor (at g place.0 k) ∷ factor (at h k place.1) ∷ []) (below g.columns))

-- a grid of numbers
abbrev pub of_numbers : ℕ → ℕ → List ℚ → Arg
of_numbers rows columns xs = Area (record { rows = rows; columns = columns; items = map Number xs })

abbrev pub mmult_of : Arg → Arg → Calculation Arg
mmult_of a b =
    let g = grid_of a in
    let h = grid_of b in
    unless (first_error (g.items ++ h.items))
    (if list_all is_number (g.items ++ h.items) && (g.columns == h.rows)
    then turned_into (of_numbers g.rows h.columns) (for_each (product_at g h) (places_of g.rows h.columns))
    else answered (Error kind.Value))

-- rows and columns exchanged
abbrev pub transposed : Rectangle → Rectangle
transposed g = record { rows = g.columns; columns = g.rows; items = map (λ place. at g place.1 place.0) (places_of g.columns g.rows) }

abbrev pub transpose_of : Arg → Calculation Arg
transpose_of a = done (Area (transposed (grid_of a)))
