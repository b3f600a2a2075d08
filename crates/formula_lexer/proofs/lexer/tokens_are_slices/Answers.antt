use Rattle.formula_lexer.proofs.Slices.{slices}
use Rattle.formula_lexer.proofs.lexer.tokens_are_slices.Goals as goal

pub returns : goal.returns
returns c = slices
