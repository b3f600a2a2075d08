use Rattle.fractions.proofs.Whole.{whole_numbers}
use Rattle.fractions.proofs.whole_numbers.Goals as goal

pub returns : goal.returns
returns c = whole_numbers
