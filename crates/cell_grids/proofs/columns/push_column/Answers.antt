use Rattle.std.proofs.Common.{sym}
use Rattle.recalculation.specs.Looks.{cell_in}
use Rattle.cell_grids.proofs.LookRows.{below_more}
use Rattle.cell_grids.proofs.columns.push_column.Goals as goal

pub loop-row-preserved : goal.loop-row-preserved
loop-row-preserved c =
    below_more (λ row. cell_in c.args.grid.now row c.args.column) c.args.to.now.items c.loop-row.to.items c.push.new.self.items _ c.loop-row.row c.loop-row.invariant c.in_ok-push.ensures.items (sym c.cell_at.ensures)
