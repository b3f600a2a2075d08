use Rattle.std.proofs.Common.{◌≡◌, ◌-◌, flat_map}
use Rattle.std.specs.List.{range_with_len}
use Rattle.calculations.specs.Calculation.{for_each, narrow}
use Rattle.sheet_funcs.specs.Arguments.{grid_of}
use Rattle.sheet_funcs.specs.Matrices.{behind_items, places_in, value_at}
use Rattle.sheet_funcs.specs.Products.{places_of}
use Rattle.sheet_funcs.proofs.products.product_items.Given as goal

-- the items so far and then those of the rest of the rows, if these are narrow, are those of all
abbrev pub invariant-loop-row : goal.invariant-loop-row
invariant-loop-row l =
    narrow (for_each (value_at (grid_of l.left) (grid_of l.right)) (places_of (grid_of l.left).rows (grid_of l.right).columns))
    ≡ behind_items l.items.items (narrow (for_each (value_at (grid_of l.left) (grid_of l.right)) (flat_map (places_in (grid_of l.right).columns) (range_with_len l.row ((grid_of l.left).rows - l.row)))))
