use Rattle.std.proofs.Common.{◌≡◌, drop, flat_map}
use Rattle.solver_names.specs.Faults.{first, found_by}
use Rattle.solver_names.proofs.faults.first_by.Given as goal

-- the first fault is that of the constraints that are left
abbrev pub invariant-loop-constraint : goal.invariant-loop-constraint
invariant-loop-constraint l = first (flat_map (found_by l.check l.decisions) l.constraints) ≡ first (flat_map (found_by l.check l.decisions) (drop l.constraint-index l.constraints))
