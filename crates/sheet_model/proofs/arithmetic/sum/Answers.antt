use Rattle.sheet_model.proofs.Calculated.{sum-told}
use Rattle.sheet_model.proofs.arithmetic.sum.Goals as goal

pub returns : goal.returns
returns c = rw c.number.ensures (sum-told c.args.x c.args.y c.add.result c.add.ensures)
