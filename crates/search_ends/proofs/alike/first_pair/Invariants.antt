use Rattle.std.proofs.Common.{ℕ, ◌<◌}
use Rattle.searches.specs.Alike.{AreAlike}
use Rattle.search_ends.proofs.alike.first_pair.Given as goal

abbrev pub invariant-loop-one : goal.invariant-loop-one
invariant-loop-one l = (i j : ℕ) → i < l.one → AreAlike l.point l.group i j → ⊥
