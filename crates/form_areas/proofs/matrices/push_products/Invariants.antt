use Rattle.std.proofs.Common.{◌≡◌, ◌-◌, map}
use Rattle.std.specs.List.{range_with_len}
use Rattle.calculations.specs.Calculation.{narrow}
use Rattle.form_values.specs.Trials.{each_tried}
use Rattle.form_areas.specs.Matrices.{behind_values, element_at, places_in}
use Rattle.form_table.specs.Wanted.{grid_of}
use Rattle.form_areas.proofs.matrices.push_products.Given as goal

-- the items so far and then those of the rest of the row, if they have values, are those of the row
abbrev pub invariant-loop-column : goal.invariant-loop-column
invariant-loop-column l =
    behind_values l.fn.items.items (narrow (each_tried (element_at (grid_of l.left) (grid_of l.right)) (places_in (grid_of l.right).columns l.row)))
    ≡ behind_values l.items.items (narrow (each_tried (element_at (grid_of l.left) (grid_of l.right)) (map (λ column. (l.row, column)) (range_with_len l.column ((grid_of l.right).columns - l.column)))))
