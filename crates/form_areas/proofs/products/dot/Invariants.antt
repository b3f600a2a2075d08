use Rattle.std.proofs.Common.{◌≡◌, map}
use Rattle.calculations.specs.Calculation.{narrow}
use Rattle.sheet_funcs.specs.Arguments.{below}
use Rattle.form_table.specs.Products.{dot, factors_at}
use Rattle.form_table.specs.Wanted.{grid_of}
use Rattle.form_areas.proofs.Dots.{rest_added}
use Rattle.form_areas.proofs.products.dot.Given as goal

-- the products in the rest of the places added to the sum so far
abbrev pub invariant-loop-place : goal.invariant-loop-place
invariant-loop-place l =
    narrow (dot (map (factors_at (map grid_of l.args)) (below l.count))) ≡ narrow (rest_added (factors_at (map grid_of l.args)) l.total l.place l.count)
