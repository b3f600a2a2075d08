use Rattle.std.proofs.Common.{ℕ, ◌<◌}
use Rattle.searches.specs.Alike.{AreAlike}
use Rattle.search_ends.proofs.alike.partner.Given as goal

abbrev pub invariant-loop-other : goal.invariant-loop-other
invariant-loop-other l = (j : ℕ) → j < l.other → AreAlike l.point l.group l.one j → ⊥
