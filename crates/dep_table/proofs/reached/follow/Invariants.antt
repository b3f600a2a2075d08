use Rattle.std.proofs.Common.{◌≡◌, ◌+◌, ◌*◌, ◌-◌, ◌<◌, ◌≤◌, false, get_or, length, true, ℕ}
use Rattle.dep_table.specs.Edges.{edge, most_slots, number, slot}
use Rattle.dep_table.specs.Spreading.{IsSpreading, left_to_reach}
use Rattle.dep_table.proofs.reached.follow.Given as goal

-- the references so far lead to formulas with flags
abbrev pub invariant-loop-found : goal.invariant-loop-found
invariant-loop-found l = record {
  spreads : IsSpreading (length l.formulas) (edge l.formulas l.leaves) l.flags l.reached.items l.next;
  next : l.next < length l.reached.items;
  node : get_or l.reached.items l.next 0 ≡ l.node;
  place : l.from.place ≤ length l.formulas;
  kept : (k : ℕ) → get_or l.fn.flags k false ≡ true → get_or l.flags k false ≡ true;
  less : left_to_reach l.flags l.reached.items ≤ left_to_reach l.fn.flags l.fn.reached.items;
  scanned : (a j : ℕ) → a * length l.formulas + j < number (length l.formulas) l.from → slot l.formulas l.leaves l.node a j ≡ true → get_or l.flags j false ≡ true;
}

abbrev pub decreases-loop-found : goal.decreases-loop-found
decreases-loop-found l = most_slots l.formulas - number (length l.formulas) l.from
