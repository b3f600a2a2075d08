use Rattle.std.proofs.Common.{◌≡◌, ◌-◌, flat_map}
use Rattle.std.specs.List.{range_with_len}
use Rattle.calculations.specs.Calculation.{narrow}
use Rattle.form_values.specs.Trials.{each_tried}
use Rattle.form_areas.specs.Matrices.{behind_values, element_at, places_in}
use Rattle.form_table.specs.Wanted.{grid_of}
use Rattle.sheet_funcs.specs.Products.{places_of}
use Rattle.form_areas.proofs.matrices.product_items.Given as goal

-- the items so far and then those of the rest of the rows, if they have values, are those of all
abbrev pub invariant-loop-row : goal.invariant-loop-row
invariant-loop-row l =
    narrow (each_tried (element_at (grid_of l.left) (grid_of l.right)) (places_of (grid_of l.left).rows (grid_of l.right).columns))
    ≡ behind_values l.items.items (narrow (each_tried (element_at (grid_of l.left) (grid_of l.right)) (flat_map (places_in (grid_of l.right).columns) (range_with_len l.row ((grid_of l.left).rows - l.row)))))
