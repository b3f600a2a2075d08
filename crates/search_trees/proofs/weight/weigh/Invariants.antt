use Rattle.std.proofs.Common.{◌≡◌, ◌≤◌, ◌*◌, take}
use Rattle.search_trees.specs.Weights.{added}
use Rattle.search_trees.proofs.weight.weigh.Given as goal

abbrev pub invariant-loop-number : goal.invariant-loop-number
invariant-loop-number l = record {
  weight : l.weight ≡ added l.of l.fn.paths.paths l.slots (take l.number-index l.order);
  light : l.weight ≤ 1539 * l.number-index;
  same : l.paths ≡ l.fn.paths;
}
