use Rattle.std.proofs.Common.{◌+◌, ap₂, arith, sym, ◌∙◌}
use Rattle.solver_names.specs.Counts.{on_sheet}
use Rattle.solver_names.proofs.Sums.{sum_more, sum_none}
use Rattle.solver_names.proofs.columns.cells_in.Goals as goal

pub loop-sheet-init : goal.loop-sheet-init
loop-sheet-init c = record {
  all = sym (sum_none (λ sheet. on_sheet c.args.areas.now sheet));
  few = omega arith;
}

pub loop-sheet-preserved : goal.loop-sheet-preserved
loop-sheet-preserved c = record {
  all = ap₂ (λ m n. m + n) c.loop-sheet.invariant.all c.cells_on-count.ensures.cells ∙ sym (sum_more (λ sheet. on_sheet c.args.areas.now sheet) c.loop-sheet.sheet);
  few = omega (arith, c.loop-sheet.invariant.few, c.cells_on-count.ensures.within);
}
