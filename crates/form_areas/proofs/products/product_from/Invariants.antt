use Rattle.std.proofs.Common.{◌≡◌, drop, map}
use Rattle.calculations.specs.Calculation.{narrow}
use Rattle.form_values.specs.Trials.{through_tried}
use Rattle.form_table.specs.Operators.{times}
use Rattle.form_table.specs.Products.{factors_at}
use Rattle.form_table.specs.Wanted.{grid_of}
use Rattle.form_areas.proofs.products.product_from.Given as goal

-- the product so far times the factors of the rest
abbrev pub invariant-loop-other : goal.invariant-loop-other
invariant-loop-other l =
    narrow (through_tried times l.fn.first (factors_at (map grid_of l.others) l.place))
    ≡ narrow (through_tried times l.product (factors_at (map grid_of (drop l.other-index l.others)) l.place))
