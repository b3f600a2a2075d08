use Rattle.std.proofs.Common.{ℕ, ◌<◌}
use Rattle.frac128.specs.Narrow.{IsNarrow}
use Rattle.tableau.specs.Entries.{pair_at}
use Rattle.tableau.proofs.numbers.all_narrow.Given as goal

abbrev pub invariant-loop-i : goal.invariant-loop-i
invariant-loop-i l = (i : ℕ) → i < l.i → IsNarrow (pair_at l.kept i).1
