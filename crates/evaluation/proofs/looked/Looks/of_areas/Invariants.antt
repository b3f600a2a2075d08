use Rattle.std.proofs.Common.{◌≡◌, take, flat_map}
use Rattle.cell_refs.specs.Areas.{cells_of}
use Rattle.evaluation.specs.Looked.{all_looked}
use Rattle.evaluation.proofs.looked.Looks.of_areas.Given as goal

-- the cells of the areas so far
abbrev pub invariant-loop-area : goal.invariant-loop-area
invariant-loop-area l = all_looked l.list.items ≡ flat_map cells_of (take l.area-index l.areas)
