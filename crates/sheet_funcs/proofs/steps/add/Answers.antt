use Rattle.sheet_funcs.proofs.Stepping.{sum-step}
use Rattle.sheet_funcs.proofs.steps.add.Goals as goal

pub returns : goal.returns
returns c = rw c.or_wide.ensures (sum-step c.args.x c.args.y c.add.result c.add.ensures)
