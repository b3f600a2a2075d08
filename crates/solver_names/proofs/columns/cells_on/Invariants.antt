use Rattle.std.proofs.Common.{◌≡◌, ◌≤◌, ◌*◌}
use Rattle.solver_names.specs.Counts.{in_column, sum_below}
use Rattle.solver_names.proofs.columns.cells_on.Given as goal

-- the columns so far are counted
abbrev pub invariant-loop-col : goal.invariant-loop-col
invariant-loop-col l = record {
  all : l.count ≡ sum_below (λ col. in_column l.areas l.sheet.0 col) l.col;
  few : l.count ≤ l.col * 4096;
}
