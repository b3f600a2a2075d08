use Rattle.std.proofs.Common.{◌∙◌, ap, arith, sym}
use Rattle.cell_refs.specs.declared.cell.SheetId.{SheetId}
use Rattle.solver_names.specs.Counts.{cell_of, is_covered}
use Rattle.solver_names.proofs.ColumnRows.{had_more, lacks_more}
use Rattle.solver_names.proofs.columns.least_free_row.Goals as goal

pub loop-col-preserved : goal.loop-col-preserved
loop-col-preserved c =
    let areas = c.args.areas.now in
    let col = c.loop-col.col in
    record {
      from = omega (arith, c.loop-col.invariant.from, c.free_row-free.ensures.from, c.top.ensures.value, c.min-least.ensures);
      to = omega (arith, c.loop-col.invariant.to, c.min-least.ensures);
      had = had_more areas c.args.other col c.loop-col.least c.free_row-free.result c.min-least.result c.min-least.ensures c.loop-col.invariant.had
          (λ row from before. ap (λ (sheet : SheetId). is_covered areas (cell_of sheet.0 col row)) (sym c.sheet.ensures) ∙ c.free_row-free.ensures.had row (omega (arith, from, c.top.ensures.value)) before);
      lacks = lacks_more areas c.args.other col c.loop-col.least c.free_row-free.result c.min-least.result c.min-least.ensures (omega (arith, c.loop-col.auto.col, c.left-col.ensures.value)) c.loop-col.invariant.lacks
          (ap (λ (sheet : SheetId). is_covered areas (cell_of sheet.0 col c.free_row-free.result)) (sym c.sheet.ensures) ∙ c.free_row-free.ensures.lacks);
    }
