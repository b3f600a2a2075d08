use Rattle.solver_names.proofs.CellLists.{one_put}
use Rattle.named_cells.proofs.cells.put_all.Goals as goal

pub loop-place-preserved : goal.loop-place-preserved
loop-place-preserved c =
    one_put c.args.area c.args.cells.now.keys c.loop-place.cells.keys c.put.new.cells.keys c.loop-place.place c.at.result c.loop-place.invariant c.in_ok-put.ensures c.at.ensures
