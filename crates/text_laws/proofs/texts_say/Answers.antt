use Rattle.frac128.proofs.NarrowNumerals.{numeral_test}
use Rattle.text_laws.proofs.Saying.{texts_say}
use Rattle.text_laws.proofs.texts_say.Goals as goal

pub returns : goal.returns
returns c = texts_say numeral_test
