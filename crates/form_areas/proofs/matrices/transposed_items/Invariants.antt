use Rattle.std.proofs.Common.{◌≡◌, ◌++◌, ◌-◌, flat_map}
use Rattle.std.specs.List.{range_with_len}
use Rattle.form_areas.specs.Matrices.{column_of}
use Rattle.form_table.specs.Products.{transposed}
use Rattle.form_table.specs.Wanted.{grid_of}
use Rattle.form_areas.proofs.matrices.transposed_items.Given as goal

-- the rest of the columns behind the items so far
abbrev pub invariant-loop-column : goal.invariant-loop-column
invariant-loop-column l =
    (transposed (grid_of l.arg)).items ≡ l.items.items ++ flat_map (column_of (grid_of l.arg)) (range_with_len l.column ((grid_of l.arg).columns - l.column))
