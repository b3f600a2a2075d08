use Rattle.std.proofs.Common.{◌≡◌, drop}
use Rattle.solver_names.proofs.ColumnRows.{free_from}
use Rattle.solver_names.proofs.columns.free_row.Given as goal

-- from the row so far on, the areas that are left decide
abbrev pub invariant-loop-area : goal.invariant-loop-area
invariant-loop-area l = free_from (drop l.area-index l.areas) l.sheet.0 l.col l.row ≡ free_from l.areas l.sheet.0 l.col l.first
