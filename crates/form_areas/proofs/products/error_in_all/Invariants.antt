use Rattle.std.proofs.Common.{◌≡◌, drop, flat_map, map}
use Rattle.form_values.specs.Grids.{Raster}
use Rattle.form_table.specs.Products.{error_among}
use Rattle.form_table.specs.Wanted.{grid_of}
use Rattle.form_areas.proofs.products.error_in_all.Given as goal

-- no error so far
abbrev pub invariant-loop-arg : goal.invariant-loop-arg
invariant-loop-arg l =
    error_among (flat_map (λ (h : Raster). h.items) (map grid_of l.args)) ≡ error_among (flat_map (λ (h : Raster). h.items) (map grid_of (drop l.arg-index l.args)))
