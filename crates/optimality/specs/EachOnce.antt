-- What it means beside that N decisions hold the whole numbers 1 to N, each once.
use Rattle.std.specs.Prelude.{◌↔◌, ◌<◌, ℕ, List, length, pos}
use Rattle.fractions.specs.Rational.{◌≤ℚ◌, one_ℚ}
use Rattle.fractions.specs.Whole.{whole_ℚ}
use Rattle.optimality.specs.Problem.{Assignment}
use Rattle.optimality.specs.Groups.{held_at, AreDifferent, HoldsEachOnce}
use Rattle.optimality.specs.Optimal.{IsWhole}

-- each is whole, at least 1 and at most their number
pub record AreInRange (a : Assignment) (group : List ℕ) : Type 0 where
  pub whole : (i : ℕ) → i < length group → IsWhole (held_at a group i)
  pub least : (i : ℕ) → i < length group → one_ℚ ≤ℚ held_at a group i
  pub greatest : (i : ℕ) → i < length group → held_at a group i ≤ℚ whole_ℚ (pos (length group))

-- whole numbers in that range that differ are all of them, and the other way round
abbrev pub DifferentInRangeIsEachOnce : Type 0
DifferentInRangeIsEachOnce = (a : Assignment) (group : List ℕ) → HoldsEachOnce a group ↔ (AreInRange a group × AreDifferent a group)
