use Rattle.affine_forms.proofs.Stepping.{product-step}
use Rattle.affine_forms.proofs.steps.multiply.Goals as goal

pub returns : goal.returns
returns c = product-step c.args.x c.args.y c.mul.result c.mul.ensures
