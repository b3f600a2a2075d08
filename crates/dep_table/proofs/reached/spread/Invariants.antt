use Rattle.std.proofs.Common.{◌≡◌, ◌-◌, false, get_or, length, true}
use Rattle.dep_table.specs.Edges.{edge}
use Rattle.dep_table.specs.Spreading.{IsSpreading, left_to_reach}
use Rattle.dep_table.proofs.reached.spread.Given as goal

abbrev pub invariant-loop-next : goal.invariant-loop-next
invariant-loop-next l = record {
  spreads : IsSpreading (length l.formulas) (edge l.formulas l.leaves) l.flags l.reached.items l.next;
  root : get_or l.flags l.root false ≡ true;
}

abbrev pub decreases-loop-next : goal.decreases-loop-next
decreases-loop-next l = left_to_reach l.flags l.reached.items - l.next
