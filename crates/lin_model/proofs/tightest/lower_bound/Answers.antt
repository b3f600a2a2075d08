use Rattle.std.proofs.Common.{◌∙◌, sym}
use Rattle.linear_models.specs.Bounds.{lower_bounds}
use Rattle.lin_model.specs.Inner.{without_objective}
use Rattle.lin_model.proofs.Raises.{highest-raised}
use Rattle.lin_model.proofs.tightest.lower_bound.Goals as goal

pub returns : goal.returns
returns c = c.raised_by_all.ensures ∙ sym (highest-raised (lower_bounds (without_objective c.args.of.now c.args.sides.now) c.args.decision))
