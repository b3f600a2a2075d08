use Rattle.branch_bound.specs.States.{path_of}
use Rattle.search_trees.proofs.Boxes.{is_box}
use Rattle.search_trees.proofs.nodes.node.Goals as goal

pub standard-requires : goal.standard-requires
standard-requires c = record {
  fits = is_box c.args.of.now c.bounds.result.now c.in_ok-within-in-Leaf.within (path_of c.args.paths.now.paths c.args.number) c.whole-whole.ensures.valid c.bounds.ensures c.in_ok-within-in-Leaf.ensures.made;
}
