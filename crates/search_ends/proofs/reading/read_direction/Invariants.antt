use Rattle.std.proofs.Common.{◌≡◌, ℕ, ◌<◌}
use Rattle.fractions.specs.Vectors.{at}
use Rattle.searches.specs.Trails.{decisions_along}
use Rattle.search_ends.proofs.reading.read_direction.Given as goal

abbrev pub invariant-loop-decision : goal.invariant-loop-decision
invariant-loop-decision l = (i : ℕ) → i < l.decision → at l.into i ≡ at (decisions_along l.of l.dict l.col) i
