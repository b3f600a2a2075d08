use Rattle.sheet_model.proofs.Calculated.{product-told}
use Rattle.sheet_model.proofs.arithmetic.product.Goals as goal

pub returns : goal.returns
returns c = rw c.number.ensures (product-told c.args.x c.args.y c.mul.result c.mul.ensures)
