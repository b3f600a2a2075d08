use Rattle.std.proofs.Common.{sym, arith}
use Rattle.recalculation.specs.Looks.{cell_in}
use Rattle.cell_grids.proofs.LookRows.{range_part_more}
use Rattle.cell_grids.proofs.picked.push_row.Goals as goal

pub loop-column-preserved : goal.loop-column-preserved
loop-column-preserved c =
    range_part_more (λ column. cell_in c.args.grid.now c.args.row column) c.args.to.now.items c.loop-column.to.items c.push.new.self.items _ c.args.left c.loop-column.column (omega arith) c.loop-column.invariant c.in_ok-push.ensures.items
    (sym c.cell_at.ensures)
