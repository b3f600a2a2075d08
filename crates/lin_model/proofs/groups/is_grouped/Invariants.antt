use Rattle.std.proofs.Common.{◌≡◌, drop}
use Rattle.linear_models.specs.Statement.{is_grouped}
use Rattle.lin_model.specs.Lists.{lists_of}
use Rattle.lin_model.proofs.groups.is_grouped.Given as goal

abbrev pub invariant-loop-group : goal.invariant-loop-group
invariant-loop-group l = is_grouped l.decision (lists_of (drop l.group-index l.groups)) ≡ is_grouped l.decision (lists_of l.groups)
