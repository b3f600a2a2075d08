use Rattle.std.proofs.Common.{◌≡◌, map, take}
use Rattle.recalculation.specs.Looking.{known_or_empty}
use Rattle.evaluation.proofs.values.filled_values.Given as goal

-- the values so far
abbrev pub invariant-loop-cell : goal.invariant-loop-cell
invariant-loop-cell g l = l.values.items ≡ map (known_or_empty (g.C.Cells.known l.cells)) (take l.cell-index l.of)
