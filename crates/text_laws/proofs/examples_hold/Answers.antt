use Rattle.text_laws.proofs.ByExample.{numbers_hold, others_hold, quotes_hold}
use Rattle.text_laws.proofs.examples_hold.Goals as goal

pub returns : goal.returns
returns c = record { numbers = numbers_hold; quotes = quotes_hold; others = others_hold }
