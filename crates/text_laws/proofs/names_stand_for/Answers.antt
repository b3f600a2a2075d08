use Rattle.frac128.proofs.NarrowNumerals.{numeral_test}
use Rattle.text_laws.proofs.Saying.{names_stand_for}
use Rattle.text_laws.proofs.names_stand_for.Goals as goal

pub returns : goal.returns
returns c = names_stand_for numeral_test
