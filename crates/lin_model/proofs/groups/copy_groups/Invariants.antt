use Rattle.std.proofs.Common.{◌≡◌, take}
use Rattle.lin_model.specs.Lists.{lists_of}
use Rattle.lin_model.proofs.groups.copy_groups.Given as goal

-- the copies of the groups so far
abbrev pub invariant-loop-group : goal.invariant-loop-group
invariant-loop-group l = lists_of l.copies.items ≡ lists_of (take l.group-index l.groups)
