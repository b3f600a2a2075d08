use Rattle.std.proofs.Common.{◌≡◌, drop}
use Rattle.std.specs.Prelude.{flat_map}
use Rattle.linear_models.specs.Bounds.{size_in}
use Rattle.lin_model.specs.Inner.{lowered}
use Rattle.lin_model.specs.Lists.{lists_of}
use Rattle.lin_model.proofs.tightest.lowered_by_groups.Given as goal

abbrev pub invariant-loop-group : goal.invariant-loop-group
invariant-loop-group l = lowered l.greatest (flat_map (size_in l.decision) (lists_of (drop l.group-index l.groups))) ≡ lowered l.fn.start (flat_map (size_in l.decision) (lists_of l.groups))
