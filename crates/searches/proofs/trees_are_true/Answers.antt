use Rattle.searches.proofs.TrueTrees.{trees_are_true}
use Rattle.searches.proofs.trees_are_true.Goals as goal

pub returns : goal.returns
returns c = trees_are_true
