use Rattle.form_areas.proofs.Truth.{matrix_product_true}
use Rattle.form_areas.proofs.matrices.mmult.Goals as goal

pub returns-clause-right : goal.returns-clause-right
returns-clause-right c = matrix_product_true c.args.args.now c.product_of.result c.requires.open_argument c.product_of.ensures
