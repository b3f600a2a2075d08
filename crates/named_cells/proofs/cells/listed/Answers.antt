use Rattle.solver_names.proofs.AreaCells.{area_listed, areas_listed}
use Rattle.named_cells.proofs.cells.listed.Goals as goal

pub loop-area-preserved : goal.loop-area-preserved
loop-area-preserved c =
    area_listed c.args.areas.now c.loop-area.area-index c.area-item.result c.loop-area.cells.keys c.put_all.new.cells.keys c.loop-area-test.true c.area-item.is c.loop-area.invariant c.in_ok-put_all.ensures

pub returns : goal.returns
returns c = areas_listed c.args.areas.now c.loop-area.area-index c.loop-area.cells.keys c.loop-area-test.false c.loop-area.invariant
