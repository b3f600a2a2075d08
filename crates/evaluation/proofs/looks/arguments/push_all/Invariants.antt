use Rattle.std.proofs.Common.{◌≡◌, ◌++◌, take}
use Rattle.evaluation.proofs.looks.arguments.push_all.Given as goal

-- the cells so far behind what was there
abbrev pub invariant-loop-cell : goal.invariant-loop-cell
invariant-loop-cell l = l.to ≡ l.initial.to ++ take l.cell-index l.cells
