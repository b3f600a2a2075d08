use Rattle.std.proofs.Common.{◌≡◌, ◌-◌, map}
use Rattle.std.specs.List.{range_with_len}
use Rattle.solver_names.specs.Constraints.{constraint}
use Rattle.solver_names.proofs.constraints.constraints.Given as goal

-- the constraints so far
abbrev pub invariant-loop-k : goal.invariant-loop-k
invariant-loop-k l = l.all.items ≡ map (constraint l.book l.sheet.0) (range_with_len 1 (l.k - 1))
