use Rattle.std.proofs.Common.{◌≡◌, ◌≤◌, ◌*◌, flat_map, length, take}
use Rattle.solver_names.specs.Faults.{rows_of}
use Rattle.solver_names.proofs.rows.row_count.Given as goal

-- the rows so far are counted
abbrev pub invariant-loop-constraint : goal.invariant-loop-constraint
invariant-loop-constraint l = record {
  all : l.count ≡ length (flat_map rows_of (take l.constraint-index l.constraints));
  few : l.count ≤ l.constraint-index * 4194304;
}
