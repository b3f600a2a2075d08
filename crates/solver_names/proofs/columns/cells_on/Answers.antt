use Rattle.std.proofs.Common.{◌+◌, ap₂, arith, sym, ◌∙◌}
use Rattle.solver_names.specs.Counts.{in_column}
use Rattle.solver_names.proofs.AreaCells.{unused_sheet}
use Rattle.solver_names.proofs.Sums.{sum_more, sum_none}
use Rattle.solver_names.proofs.columns.cells_on.Goals as goal

pub returns-then-not-has_sheet-clause-cells : goal.returns-then-not-has_sheet-clause-cells
returns-then-not-has_sheet-clause-cells c = unused_sheet c.args.areas.now c.args.sheet.0 (sym c.has_sheet.ensures ∙ c.if-not-has_sheet.true)

pub loop-col-init : goal.loop-col-init
loop-col-init c = record {
  all = sym (sum_none (λ col. in_column c.args.areas.now c.args.sheet.0 col));
  few = omega arith;
}

pub loop-col-preserved : goal.loop-col-preserved
loop-col-preserved c = record {
  all = ap₂ (λ m n. m + n) c.loop-col.invariant.all c.rows_in.ensures.rows ∙ sym (sum_more (λ col. in_column c.args.areas.now c.args.sheet.0 col) c.loop-col.col);
  few = omega (arith, c.loop-col.invariant.few, c.rows_in.ensures.within);
}
