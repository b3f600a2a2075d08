use Rattle.linear_models.specs.Conditions.{statement_of}
use Rattle.lin_model.proofs.Agreed.{built_agrees}
use Rattle.lin_model.proofs.building.linear.Goals as goal

pub returns-clause-agrees : goal.returns-clause-agrees
returns-clause-agrees c = built_agrees (statement_of c.args.of.now c.args.objective.now c.args.sides.now) c.put_together.result c.requires.fits.1 c.put_together.ensures.built
