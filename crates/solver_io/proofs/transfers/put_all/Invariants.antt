use Rattle.std.proofs.Common.{length}
use Rattle.solver_io.proofs.Pieces.{Underway}
use Rattle.solver_io.proofs.transfers.put_all.Given as goal

-- what went before the rest was appended
abbrev pub invariant-loop-rest : goal.invariant-loop-rest
invariant-loop-rest g l = Underway (g.W.Write.contents l.fn.to) (g.W.Write.contents l.to) l.piece l.rest

abbrev pub decreases-loop-rest : goal.decreases-loop-rest
decreases-loop-rest g l = length l.rest
