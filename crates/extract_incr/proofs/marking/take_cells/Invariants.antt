-- The forms of the cells so far are gone.
use Rattle.std.proofs.Common.{take}
use Rattle.extract_incr.proofs.Taken.{AreTaken}
use Rattle.extract_incr.proofs.marking.take_cells.Given as goal

abbrev pub invariant-loop-cell : goal.invariant-loop-cell
invariant-loop-cell l = AreTaken (take l.cell-index l.cells) l.initial.table l.table
