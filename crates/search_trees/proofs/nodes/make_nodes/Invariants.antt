use Rattle.std.proofs.Common.{◌≡◌, map, take}
use Rattle.std.specs.Prelude.{All}
use Rattle.opt_certificate.specs.Nodes.{HasNarrowFloor}
use Rattle.opt_certificate.specs.Trees.{node_of}
use Rattle.search_trees.specs.Made.{AreMade}
use Rattle.search_trees.proofs.nodes.make_nodes.Given as goal

abbrev pub invariant-loop-number : goal.invariant-loop-number
invariant-loop-number l = record {
  made : AreMade l.of l.plain l.fn.paths.paths l.slots (take l.number-index l.order) (map node_of l.made.items);
  narrow : All HasNarrowFloor (map node_of l.made.items);
  same : l.paths ≡ l.fn.paths;
}
