use Rattle.std.proofs.Common.{take}
use Rattle.search_trees.specs.Slots.{AreSlots}
use Rattle.search_trees.proofs.slots.fill.Given as goal

abbrev pub invariant-loop-visit : goal.invariant-loop-visit
invariant-loop-visit l = AreSlots l.count (take l.visit-index l.opened) l.made.items
