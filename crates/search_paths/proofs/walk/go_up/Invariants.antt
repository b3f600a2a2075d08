use Rattle.std.proofs.Common.{◌≡◌, ◌<◌, ◌+◌, length}
use Rattle.search_paths.specs.Walks.{IsAt, IsWay}
use Rattle.search_paths.proofs.walk.go_up.Given as goal

abbrev pub invariant-loop-walk : goal.invariant-loop-walk
invariant-loop-walk l = record {
  at : IsAt l.origins l.walk;
  below : l.below < length l.origins;
  way : IsWay l.origins l.way.items l.below l.number;
  root : l.walk.root ≡ l.fn.walk.root;
}

abbrev pub decreases-loop-walk : goal.decreases-loop-walk
decreases-loop-walk l = l.below + l.walk.at
