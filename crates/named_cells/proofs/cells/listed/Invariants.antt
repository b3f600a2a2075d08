use Rattle.std.proofs.Common.{◌≡◌, take}
use Rattle.solver_names.proofs.AreaCells.{all_cells}
use Rattle.named_cells.proofs.cells.listed.Given as goal

-- the cells of the areas so far are put
abbrev pub invariant-loop-area : goal.invariant-loop-area
invariant-loop-area l = l.cells.keys ≡ all_cells (take l.area-index l.areas)
