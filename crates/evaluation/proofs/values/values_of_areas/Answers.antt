use Rattle.evaluation.proofs.Elements.{area_known, area_unknown}
use Rattle.evaluation.proofs.values.values_of_areas.Goals as goal

pub returns-in-None : goal.returns-in-None
returns-in-None g c =
    area_unknown (g.C.Cells.known c.args.cells.now) c.args.areas.now c.loop-area.area-index c.area-item.result c.loop-area-test.true c.area-item.is _ c.loop-area.values.items c.loop-area.invariant
    (rw c.in-None.is at c.in_ok-more.ensures.values)

pub loop-area-preserved : goal.loop-area-preserved
loop-area-preserved g c =
    area_known (g.C.Cells.known c.args.cells.now) c.args.areas.now c.loop-area.area-index c.area-item.result c.loop-area-test.true c.area-item.is _ c.loop-area.values.items c.loop-area.invariant
    c.in-Some.more.items c.append.new.self.items (rw c.in-Some.is at c.in_ok-more.ensures.values) c.in_ok-append-in-Some.ensures.items
