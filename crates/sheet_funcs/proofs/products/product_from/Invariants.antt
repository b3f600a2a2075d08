use Rattle.std.proofs.Common.{◌≡◌, ◌∷◌, drop, map}
use Rattle.calculations.specs.Calculation.{after, done, narrow, product, through}
use Rattle.sheet_funcs.specs.Arguments.{grid_of}
use Rattle.sheet_funcs.specs.Products.{factors_at, product_of}
use Rattle.sheet_funcs.proofs.products.product_from.Given as goal

-- the product so far times the factors of the rest
abbrev pub invariant-loop-other : goal.invariant-loop-other
invariant-loop-other l =
    narrow (product_of (l.fn.first ∷ factors_at (map grid_of l.others) l.place))
    ≡ narrow (through (λ so_far y. after (product so_far y) done) l.product (factors_at (map grid_of (drop l.other-index l.others)) l.place))
