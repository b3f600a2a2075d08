-- Parts of a matrix product, and of a grid with rows and columns exchanged.
use Rattle.std.specs.Prelude.{ℕ, Bool, ◌&&◌, ◌==◌, List, ◌++◌, map, Option, Result, option_map}
use Rattle.std.specs.List.{list_all}
use Rattle.std.specs.Result.{result_map_both}
use Rattle.form_values.specs.Entries.{entry}
use Rattle.form_values.specs.Grids.{Raster}
use Rattle.form_values.specs.Trials.{Trial, Refusal, given, and_then, each_tried}
use Rattle.form_values.specs.declared.abs.Abs.{Abs}
use Rattle.form_values.specs.declared.abs.AbsArg.{AbsArg}
use Rattle.form_table.specs.Items.{is_number}
use Rattle.form_table.specs.Products.{at, of_forms, product_at}
use Rattle.sheet_funcs.specs.Arguments.{below}
use Rattle.sheet_funcs.specs.Products.{places_of}

-- numbers alone, and as many columns as the other has rows
abbrev pub are_factors : Raster → Raster → Bool
are_factors g h = list_all is_number (g.items ++ h.items) && (g.columns == h.rows)

abbrev pub matrix_product : Raster → Raster → Trial AbsArg
matrix_product g h = and_then (each_tried (product_at g h) (places_of g.rows h.columns)) (λ fs. given (of_forms g.rows h.columns fs))

-- the element in a place as a value
abbrev pub element_at : Raster → Raster → ℕ × ℕ → Trial Abs
element_at g h place = and_then (product_at g h place) (λ f. given (entry f))

-- the places of a row
abbrev pub places_in : ℕ → ℕ → List (ℕ × ℕ)
places_in columns row = map (λ column. (row, column)) (below columns)

-- the elements of a column
abbrev pub column_of : Raster → ℕ → List Abs
column_of g column = map (λ row. at g row column) (below g.rows)

-- values behind those that are there, if there are any
abbrev pub behind_values : List Abs → Option (Result (List Abs) Refusal) → Option (Result (List Abs) Refusal)
behind_values front others = option_map (result_map_both (λ items. front ++ items) (λ r. r)) others
