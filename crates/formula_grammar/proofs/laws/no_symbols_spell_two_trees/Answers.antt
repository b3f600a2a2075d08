use Rattle.formula_grammar.proofs.Marks.{one_tree}
use Rattle.formula_grammar.proofs.laws.no_symbols_spell_two_trees.Goals as goal

pub returns : goal.returns
returns c = one_tree
