use Rattle.form_areas.proofs.Truth.{product_sum_true}
use Rattle.form_areas.proofs.products.sumproduct.Goals as goal

pub returns-clause-right : goal.returns-clause-right
returns-clause-right c = product_sum_true c.args.args.now c.product_sum.result c.requires.open_argument c.product_sum.ensures
