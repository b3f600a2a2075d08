use Rattle.text_laws.proofs.Longest.{longest}
use Rattle.text_laws.proofs.longest_token_is_cut.Goals as goal

pub returns : goal.returns
returns c = longest
