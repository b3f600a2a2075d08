use Rattle.std.proofs.lemmas.List.{take_rest}
use Rattle.solver_io.proofs.Pieces.{underway_more, underway_kept, underway_some}
use Rattle.solver_io.proofs.transfers.put_all.Goals as goal

pub returns-in_default : goal.returns-in_default
returns-in_default g c = underway_some _ _ _ _ (underway_kept _ _ _ _ _ c.loop-rest.invariant c.in_default.ensures.bytes)

pub returns-then-count-eq0 : goal.returns-then-count-eq0
returns-then-count-eq0 g c = underway_some _ _ _ _ (underway_more _ _ _ _ _ _ c.loop-rest.invariant c.in-Ok.ensures.bytes)

pub loop-rest-preserved : goal.loop-rest-preserved
loop-rest-preserved g c = rw (take_rest c.loop-rest.rest.now c.in-Ok.count) (underway_more _ _ _ _ _ _ c.loop-rest.invariant c.in-Ok.ensures.bytes)
