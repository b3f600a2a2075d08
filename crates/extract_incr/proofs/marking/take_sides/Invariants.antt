-- The forms of those of the sides so far that refer to one of the cells are gone.
use Rattle.std.proofs.Common.{take}
use Rattle.extract_incr.proofs.Taken.{AreSidesTaken}
use Rattle.extract_incr.proofs.marking.take_sides.Given as goal

abbrev pub invariant-loop-side : goal.invariant-loop-side
invariant-loop-side l = AreSidesTaken (take l.side-index l.sides) l.cells l.initial.table l.table
