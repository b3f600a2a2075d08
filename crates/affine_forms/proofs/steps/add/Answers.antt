use Rattle.affine_forms.proofs.Stepping.{sum-step}
use Rattle.affine_forms.proofs.steps.add.Goals as goal

pub returns : goal.returns
returns c = sum-step c.args.x c.args.y c.add.result c.add.ensures
