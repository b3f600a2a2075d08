use Rattle.std.proofs.Common.{◌≡◌, ◌≤◌, ◌*◌}
use Rattle.solver_names.specs.Counts.{on_sheet, sum_below}
use Rattle.solver_names.proofs.columns.cells_in.Given as goal

-- the sheets so far are counted
abbrev pub invariant-loop-sheet : goal.invariant-loop-sheet
invariant-loop-sheet l = record {
  all : l.count ≡ sum_below (λ sheet. on_sheet l.areas sheet) l.sheet;
  few : l.count ≤ l.sheet * 4194304;
}
