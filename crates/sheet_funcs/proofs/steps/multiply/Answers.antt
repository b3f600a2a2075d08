use Rattle.sheet_funcs.proofs.Stepping.{product-step}
use Rattle.sheet_funcs.proofs.steps.multiply.Goals as goal

pub returns : goal.returns
returns c = rw c.or_wide.ensures (product-step c.args.x c.args.y c.mul.result c.mul.ensures)
