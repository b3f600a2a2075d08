use Rattle.sheet_prices.proofs.ByExample.{raised_rights_hold}
use Rattle.sheet_prices.proofs.examples_hold.Goals as goal

pub returns : goal.returns
returns c = raised_rights_hold c.examples_hold.ensures
