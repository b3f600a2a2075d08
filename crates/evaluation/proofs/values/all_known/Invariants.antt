use Rattle.std.proofs.Common.{◌≡◌, drop}
use Rattle.recalculation.specs.Looking.{are_known}
use Rattle.evaluation.proofs.values.all_known.Given as goal

-- all is known where the rest is
abbrev pub invariant-loop-cell : goal.invariant-loop-cell
invariant-loop-cell g l = are_known (g.C.Cells.known l.cells) l.of ≡ are_known (g.C.Cells.known l.cells) (drop l.cell-index l.of)
