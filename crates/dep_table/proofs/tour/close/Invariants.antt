use Rattle.std.proofs.Common.{◌≡◌, drop}
use Rattle.dep_table.specs.Tour.{closed}
use Rattle.dep_table.proofs.tour.close.Given as goal

-- the marks so far, with the rest of the stack circular, are those that are wanted
abbrev pub invariant-loop-node : goal.invariant-loop-node
invariant-loop-node l = closed l.marks (drop l.node-index l.node-items) ≡ closed l.initial.marks l.node-items
