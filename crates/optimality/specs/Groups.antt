-- Groups of decisions: N decisions that hold the whole numbers 1 to N, each once, and decisions that hold different numbers.
-- (Hall, Combinatorial Theory, chapter 1, on permutations.)
use Rattle.std.specs.Prelude.{◌≡◌, ◌<◌, ◌≤◌, ℕ, List, length, slice_index, pos}
use Rattle.fractions.specs.Rational.{ℚ}
use Rattle.fractions.specs.Vectors.{at}
use Rattle.fractions.specs.Whole.{whole_ℚ}
use Rattle.optimality.specs.Problem.{Assignment}

-- a group lists the numbers of its decisions; this is the number that its decision at the place i holds
abbrev pub held_at : Assignment → List ℕ → ℕ → ℚ
held_at a group i = at a (slice_index group i)

-- no two of its decisions hold the same number
pub record AreDifferent (a : Assignment) (group : List ℕ) : Type 0 where
  pub apart : (i k : ℕ) → i < length group → k < length group → held_at a group i ≡ held_at a group k → i ≡ k

-- its decisions hold whole numbers from 1 to as many as they are, each of these numbers, and none twice
pub record HoldsEachOnce (a : Assignment) (group : List ℕ) : Type 0 where
  pub within : (i : ℕ) → i < length group → (n : ℕ) × (1 ≤ n) × (n ≤ length group) × (held_at a group i ≡ whole_ℚ (pos n))
  pub each : (n : ℕ) → 1 ≤ n → n ≤ length group → (i : ℕ) × (i < length group) × (held_at a group i ≡ whole_ℚ (pos n))
  pub once : AreDifferent a group
