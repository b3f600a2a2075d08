use Rattle.std.proofs.Common.{◌-◌, length, reverse}
use Rattle.search_trees.proofs.Walking.{IsWalked}
use Rattle.search_trees.proofs.order.preorder.Given as goal

abbrev pub invariant-loop-number : goal.invariant-loop-number
invariant-loop-number l = IsWalked l.slots l.root l.waiting.items (reverse l.order.items)

abbrev pub decreases-loop-number : goal.decreases-loop-number
decreases-loop-number l = length l.slots - length l.order.items
