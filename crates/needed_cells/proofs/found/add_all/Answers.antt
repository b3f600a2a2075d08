use Rattle.needed_cells.proofs.Adding.{more_added}
use Rattle.needed_cells.proofs.found.add_all.Goals as goal

pub loop-cell-preserved : goal.loop-cell-preserved
loop-cell-preserved c = more_added _ _ _ _ _ _ _ _ _ c.loop-cell-test.true c.loop-cell.invariant c.in_ok-add.ensures
