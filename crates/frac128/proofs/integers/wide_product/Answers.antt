use Rattle.frac128.proofs.Orders.{product_by_halves}
use Rattle.frac128.proofs.integers.wide_product.Goals as goal

pub returns : goal.returns
returns c = product_by_halves c.args.a c.args.b
