use Rattle.std.proofs.Common.{◌≡◌, ◌≤◌, ◌+◌, drop}
use Rattle.solver_names.specs.Counts.{in_column}
use Rattle.solver_names.proofs.ColumnRows.{rows_from}
use Rattle.solver_names.proofs.columns.rows_in.Given as goal

-- the rows so far are counted, up to where they end
abbrev pub invariant-loop-area : goal.invariant-loop-area
invariant-loop-area l = record {
  all : l.count + rows_from (drop l.area-index l.areas) l.sheet.0 l.col l.end ≡ in_column l.areas l.sheet.0 l.col;
  few : l.count ≤ l.end;
  last : l.end ≤ 4096;
}
