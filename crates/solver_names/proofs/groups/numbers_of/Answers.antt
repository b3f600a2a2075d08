use Rattle.solver_names.proofs.DifferentCells.{one_number}
use Rattle.solver_names.proofs.groups.numbers_of.Goals as goal

pub loop-place-preserved : goal.loop-place-preserved
loop-place-preserved c =
    one_number c.args.decisions.now c.args.area c.loop-place.place c.at.result c.loop-place.numbers.items c.put_number.new.numbers.items c.at.ensures c.loop-place.invariant c.in_ok-put_number.ensures
