-- So many zeros stand behind what was there.
use Rattle.std.proofs.Common.{replicate}
use Rattle.frac128.specs.Appends.{Appends}
use Rattle.frac128.proofs.write.append_zeros.Given as goal

abbrev pub invariant-loop : goal.invariant-loop
invariant-loop l = Appends l.initial.to l.to (replicate l.counter 48)
