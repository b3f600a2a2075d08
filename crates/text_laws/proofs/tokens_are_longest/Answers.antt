use Rattle.text_laws.proofs.Cutting.{tokens_longest}
use Rattle.text_laws.proofs.tokens_are_longest.Goals as goal

pub returns : goal.returns
returns c = tokens_longest
