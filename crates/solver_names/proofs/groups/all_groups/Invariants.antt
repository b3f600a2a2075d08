use Rattle.std.proofs.Common.{◌≡◌, take}
use Rattle.solver_names.specs.Answers.{groups_of}
use Rattle.solver_names.specs.Stated.{different}
use Rattle.solver_names.proofs.groups.all_groups.Given as goal

-- those of the constraints so far
abbrev pub invariant-loop-constraint : goal.invariant-loop-constraint
invariant-loop-constraint l = groups_of l.groups.items ≡ different (take l.constraint-index l.constraints) l.decisions
