use Rattle.std.proofs.Common.{◌≡◌, ◌-◌, map}
use Rattle.std.specs.List.{range_with_len}
use Rattle.calculations.specs.Calculation.{for_each, narrow}
use Rattle.sheet_funcs.specs.Arguments.{grid_of}
use Rattle.sheet_funcs.specs.Matrices.{behind_items, places_in, value_at}
use Rattle.sheet_funcs.proofs.products.push_products.Given as goal

-- the items so far and then those of the rest of the row, if these are narrow, are those of the row
abbrev pub invariant-loop-column : goal.invariant-loop-column
invariant-loop-column l =
    behind_items l.fn.items.items (narrow (for_each (value_at (grid_of l.left) (grid_of l.right)) (places_in (grid_of l.right).columns l.row)))
    ≡ behind_items l.items.items (narrow (for_each (value_at (grid_of l.left) (grid_of l.right)) (map (λ column. (l.row, column)) (range_with_len l.column ((grid_of l.right).columns - l.column)))))
