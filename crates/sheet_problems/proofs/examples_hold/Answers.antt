use Rattle.sheet_problems.proofs.ByExample.{worths_hold}
use Rattle.sheet_problems.proofs.examples_hold.Goals as goal

pub returns : goal.returns
returns c = worths_hold
