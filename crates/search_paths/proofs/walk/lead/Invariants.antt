use Rattle.std.proofs.Common.{◌≡◌, length}
use Rattle.search_paths.specs.Walks.{IsAt, IsWay}
use Rattle.search_paths.proofs.walk.lead.Given as goal

abbrev pub invariant-loop-next : goal.invariant-loop-next
invariant-loop-next l = record {
  at : IsAt l.origins l.walk;
  way : IsWay l.origins l.way.items l.walk.at l.number;
  root : l.walk.root ≡ l.fn.walk.root;
}

abbrev pub decreases-loop-next : goal.decreases-loop-next
decreases-loop-next l = length l.way.items
