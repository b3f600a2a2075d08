use Rattle.std.proofs.Common.{◌≡◌, take}
use Rattle.lin_model.specs.Lists.{lists_of}
use Rattle.sheet_problems.specs.FromSolverNames.{groups_of}
use Rattle.model_building.proofs.statement.copies_of.Given as goal

-- the copies of the lists so far
abbrev pub invariant-loop-group : goal.invariant-loop-group
invariant-loop-group l = lists_of l.copies.items ≡ groups_of (take l.group-index l.groups)
