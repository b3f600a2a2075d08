use Rattle.affine_forms.proofs.Stepping.{quotient-step}
use Rattle.affine_forms.proofs.steps.divide.Goals as goal

pub returns : goal.returns
returns c = quotient-step c.args.x c.args.y c.div.result c.div.ensures
