use Rattle.std.proofs.Common.{subst}
use Rattle.std.proofs.lemmas.List.{take_all}
use Rattle.extract_incr.proofs.Taken.{AreTaken, none_taken, one_taken}
use Rattle.extract_incr.proofs.marking.take_cells.Goals as goal

pub loop-cell-init : goal.loop-cell-init
loop-cell-init c = none_taken c.args.table.now

pub loop-cell-preserved : goal.loop-cell-preserved
loop-cell-preserved c = one_taken c.args.cells.now c.loop-cell.cell-index _ c.args.table.now c.loop-cell.table c.take.new.self c.loop-cell-test.true c.loop-cell.invariant c.take.ensures

pub returns-clause-cells : goal.returns-clause-cells
returns-clause-cells c = (subst (λ cells. AreTaken cells c.args.table.now c.loop-cell.table) (take_all c.loop-cell.cell-index c.args.cells.now c.loop-cell-test.false) c.loop-cell.invariant).0

pub returns-clause-sides : goal.returns-clause-sides
returns-clause-sides c = c.loop-cell.invariant.1
