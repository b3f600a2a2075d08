use Rattle.std.proofs.Common.{◌≡◌, ◌++◌, map}
use Rattle.std.specs.List.{range_with_len}
use Rattle.solver_names.specs.Faults.{row_at}
use Rattle.solver_names.proofs.rows.add_related.Given as goal

-- the rows so far are put behind the others
abbrev pub invariant-loop-place : goal.invariant-loop-place
invariant-loop-place l = l.rows.items ≡ l.initial.rows.items ++ map (row_at l.constraint l.relation l.left) (range_with_len 0 l.place)
