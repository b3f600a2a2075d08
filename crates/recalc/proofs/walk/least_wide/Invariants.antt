use Rattle.std.proofs.Common.{◌+◌, length}
use Rattle.recalc.specs.Rows.{looks_in}
use Rattle.recalc.specs.Walks.{IsOnItsWay}
use Rattle.recalc.proofs.walk.least_wide.Given as goal

abbrev pub invariant-loop-cell : goal.invariant-loop-cell
invariant-loop-cell l = IsOnItsWay l.fn.rows.entries l.fn.from l.waiting.entries l.stack.items l.least

abbrev pub decreases-loop-cell : goal.decreases-loop-cell
decreases-loop-cell l = looks_in l.waiting.entries + length l.stack.items
