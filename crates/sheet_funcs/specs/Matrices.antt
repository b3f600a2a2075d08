-- Parts of the matrix product.
use Rattle.std.specs.Prelude.{ℕ, Bool, ◌&&◌, ◌==◌, List, ◌++◌, map, Option, option_map}
use Rattle.std.specs.List.{list_all}
use Rattle.calculations.specs.Calculation.{Calculation, turned_into, for_each}
use Rattle.sheet_model.specs.Grids.{Rectangle}
use Rattle.sheet_model.specs.declared.value.Value.{Value}
use Rattle.sheet_model.specs.declared.value.Value.TheVariants.{Number}
use Rattle.sheet_model.specs.declared.grid.Arg.{Arg}
use Rattle.sheet_funcs.specs.Arguments.{below}
use Rattle.sheet_funcs.specs.Sums.{is_number}
use Rattle.sheet_funcs.specs.Products.{of_numbers, places_of, product_at}

-- numbers alone, and as many columns as the other has rows
abbrev pub are_factors : Rectangle → Rectangle → Bool
are_factors g h = list_all is_number (g.items ++ h.items) && (g.columns == h.rows)

abbrev pub grid_product : Rectangle → Rectangle → Calculation Arg
grid_product g h = turned_into (of_numbers g.rows h.columns) (for_each (product_at g h) (places_of g.rows h.columns))

-- the element in a place as a value
abbrev pub value_at : Rectangle → Rectangle → ℕ × ℕ → Calculation Value
value_at g h place = turned_into Number (product_at g h place)

-- the places of a row
abbrev pub places_in : ℕ → ℕ → List (ℕ × ℕ)
places_in columns row = map (λ column. (row, column)) (below columns)

-- values behind those that are there, if there are any
abbrev pub behind_items : List Value → Option (List Value) → Option (List Value)
behind_items front others = option_map (λ items. front ++ items) others
