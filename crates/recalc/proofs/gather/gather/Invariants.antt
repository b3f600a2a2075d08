use Rattle.std.proofs.Common.{drop}
use Rattle.recalc.proofs.Gathered.{HasCome}
use Rattle.recalc.proofs.gather.gather.Given as goal

abbrev pub invariant-loop-found : goal.invariant-loop-found
invariant-loop-found l = HasCome l.book l.rows.entries (drop l.found-index l.found-items) l.values
