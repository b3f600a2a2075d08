use Rattle.formula_parser.proofs.TextTrees as trees
use Rattle.formula_parser.proofs.laws.trees_are_spelled.Goals as goal

pub returns : goal.returns
returns c = trees.trees_are_spelled
