use Rattle.frac128.proofs.Spelling.{spells_one}
use Rattle.frac128.proofs.read.no_text_spells_two.Goals as goal

pub returns : goal.returns
returns c = spells_one
