use Rattle.std.proofs.Common.{◌≡◌, length}
use Rattle.search_certificates.specs.Leaves.{without_last_zeros}
use Rattle.search_trees.proofs.leaf.without_last_zeros.Given as goal

abbrev pub invariant-loop-left : goal.invariant-loop-left
invariant-loop-left l = without_last_zeros l.left.items ≡ without_last_zeros l.fn.multipliers.items

abbrev pub decreases-loop-left : goal.decreases-loop-left
decreases-loop-left l = length l.left.items
