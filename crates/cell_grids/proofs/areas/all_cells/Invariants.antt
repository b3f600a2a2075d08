use Rattle.std.proofs.Common.{◌≡◌, take, flat_map}
use Rattle.cell_refs.specs.Areas.{cells_of}
use Rattle.cell_grids.proofs.areas.all_cells.Given as goal

-- the cells of the areas so far
abbrev pub invariant-loop-area : goal.invariant-loop-area
invariant-loop-area l = l.cells.items ≡ flat_map cells_of (take l.area-index l.areas)
