use Rattle.std.proofs.Common.{◌∙◌, sym}
use Rattle.linear_models.specs.Bounds.{upper_bounds}
use Rattle.lin_model.specs.Inner.{without_objective}
use Rattle.lin_model.proofs.Raises.{lowest-lowered}
use Rattle.lin_model.proofs.tightest.upper_bound.Goals as goal

pub returns : goal.returns
returns c = c.lowered_by_all.ensures ∙ sym (lowest-lowered (upper_bounds (without_objective c.args.of.now c.args.sides.now) c.args.decision))
