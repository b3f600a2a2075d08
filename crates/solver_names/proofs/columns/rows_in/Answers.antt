use Rattle.std.proofs.Common.{◌∙◌, ap, arith, max, sym, ◌+◌}
use Rattle.solver_names.proofs.ColumnRows.{area_counted, area_passed, column_counted}
use Rattle.solver_names.proofs.columns.rows_in.Goals as goal
use Rattle.solver_names.proofs.columns.rows_in.Goals.{then-has_column, else-has_column}

pub loop-area-preserved : goal.loop-area-preserved
loop-area-preserved c = elim c.if-has_column.branch [
  | then-has_column w ↦
      let counted = area_counted c.args.areas.now c.loop-area.area-index c.area-item.result c.args.sheet.0 c.args.col c.loop-area-test.true c.area-item.is c.loop-area.count c.loop-area.end _ c.loop-area.invariant.all c.requires.rising
      (sym c.has_column.ensures ∙ w.if-has_column.true) w.bottom.ensures.on_sheet.last_row c.loop-area.invariant.last c.loop-area.invariant.few w.max-start.result c.if-has_column.end c.if-has_column.count
      (w.max-start.ensures ∙ ap (max c.loop-area.end) w.top.ensures.value) (w.end-is ∙ w.max-end.ensures ∙ ap (λ n. max c.loop-area.end (n + 1)) w.bottom.ensures.value) (omega (arith, w.count-is, w.end-is)) in
      record { all = counted.0; few = counted.1; last = counted.2 }
  | else-has_column w ↦ record {
    all = area_passed c.args.areas.now c.loop-area.area-index c.area-item.result c.args.sheet.0 c.args.col c.loop-area-test.true c.area-item.is c.loop-area.count c.loop-area.end _ c.loop-area.invariant.all
        (sym c.has_column.ensures ∙ w.if-has_column.false) c.if-has_column.end c.if-has_column.count w.end-is w.count-is;
    few = omega (arith, w.end-is, w.count-is, c.loop-area.invariant.few);
    last = omega (arith, w.end-is, c.loop-area.invariant.last);
  }
]

pub returns-clause-rows : goal.returns-clause-rows
returns-clause-rows c = column_counted c.args.areas.now c.loop-area.area-index c.args.sheet.0 c.args.col c.loop-area.count c.loop-area.end _ c.loop-area-test.false c.loop-area.invariant.all
