use Rattle.branch_bound.specs.States.{path_of}
use Rattle.search_trees.proofs.Boxes.{is_box}
use Rattle.search_trees.proofs.weight.weight_at.Goals as goal

pub leaf_weight-requires : goal.leaf_weight-requires
leaf_weight-requires c =
    is_box c.args.of.now c.bounds.result.now c.in_ok-within.within (path_of c.args.paths.now.paths c.args.number) c.whole-whole.ensures.valid c.bounds.ensures c.in_ok-within.ensures.made
