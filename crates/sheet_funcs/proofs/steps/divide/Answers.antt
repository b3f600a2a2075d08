use Rattle.sheet_funcs.proofs.Stepping.{quotient-step}
use Rattle.sheet_funcs.proofs.steps.divide.Goals as goal

pub returns : goal.returns
returns c = rw c.or_wide.ensures (quotient-step c.args.x c.args.y c.div.result c.div.ensures)
