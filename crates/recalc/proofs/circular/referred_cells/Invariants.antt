use Rattle.std.proofs.Common.{◌≡◌, flat_map, take}
use Rattle.cell_refs.specs.Areas.{cells_of}
use Rattle.recalc.proofs.circular.referred_cells.Given as goal

abbrev pub invariant-loop-area : goal.invariant-loop-area
invariant-loop-area l = l.cells.items ≡ flat_map cells_of (take l.area-index l.area-items)
