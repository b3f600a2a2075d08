use Rattle.std.proofs.Common.{◌≡◌, [], ◌∷◌}
use Rattle.calculations.specs.Calculation.{narrow}
use Rattle.form_table.specs.Products.{at, factor, product_at}
use Rattle.form_table.specs.Wanted.{grid_of}
use Rattle.form_areas.proofs.Dots.{rest_added}
use Rattle.form_areas.proofs.matrices.product_at.Given as goal

-- the rest of the products added to the sum so far
abbrev pub invariant-loop-inner : goal.invariant-loop-inner
invariant-loop-inner l =
    narrow (product_at (grid_of l.left) (grid_of l.right) (l.row, l.column))
    ≡ narrow (rest_added (λ k. factor (at (grid_of l.left) l.row k) ∷ factor (at (grid_of l.right) k l.column) ∷ []) l.total l.inner (grid_of l.left).columns)
