-- The areas of the sides so far.
use Rattle.std.proofs.Common.{take}
use Rattle.extract_incr.specs.Marking.{AreAreasOf}
use Rattle.extract_incr.proofs.marking.areas_of.Given as goal

abbrev pub invariant-loop-side : goal.invariant-loop-side
invariant-loop-side l = AreAreasOf l.found.items (take l.side-index l.sides)
