use Rattle.std.proofs.Common.{◌≡◌, drop}
use Rattle.solver_names.specs.Counts.{is_covered}
use Rattle.solver_names.proofs.columns.is_covered.Given as goal

-- an area that has the cell is among those that are left
abbrev pub invariant-loop-area : goal.invariant-loop-area
invariant-loop-area l = is_covered l.areas l.cell ≡ is_covered (drop l.area-index l.areas) l.cell
