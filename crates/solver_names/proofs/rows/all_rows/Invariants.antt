use Rattle.std.proofs.Common.{◌≡◌, flat_map, take}
use Rattle.solver_names.specs.Faults.{rows_of}
use Rattle.solver_names.proofs.rows.all_rows.Given as goal

-- the rows so far
abbrev pub invariant-loop-constraint : goal.invariant-loop-constraint
invariant-loop-constraint l = l.rows.items ≡ flat_map rows_of (take l.constraint-index l.constraints)
