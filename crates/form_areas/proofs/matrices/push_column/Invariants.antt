use Rattle.std.proofs.Common.{◌≡◌, ◌++◌, ◌-◌, map}
use Rattle.std.specs.List.{range_with_len}
use Rattle.form_areas.specs.Matrices.{column_of}
use Rattle.form_table.specs.Products.{at}
use Rattle.form_table.specs.Wanted.{grid_of}
use Rattle.form_areas.proofs.matrices.push_column.Given as goal

-- the rest of the column behind the items so far
abbrev pub invariant-loop-row : goal.invariant-loop-row
invariant-loop-row l =
    l.fn.items.items ++ column_of (grid_of l.arg) l.column ≡ l.items.items ++ map (λ row. at (grid_of l.arg) row l.column) (range_with_len l.row ((grid_of l.arg).rows - l.row))
