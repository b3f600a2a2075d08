-- The choices of Bland's rule as far as a walk over the rows or columns has come.
use Rattle.std.specs.Prelude.{◌≡◌, ◌<◌, ◌≤◌, ℕ, Option, MatchOption, length, slice_index, List}
use Rattle.fractions.specs.Rational.{ℚ, ◌≤ℚ◌}
use Rattle.fractions.specs.Vectors.{at}
use Rattle.linear_programs.specs.Program.{Program, IsRegular}
use Rattle.dictionaries.specs.Dictionary.{Dictionary, row_of}
use Rattle.dictionaries.specs.Bland.{Improves, IsCandidate, ratio_of, IsNarrowRatio}
use Rattle.dictionaries.specs.Run.{IsReached}
use Rattle.tableau.specs.Entries.{pair_at}

-- b improves, and of the columns of the first n entries no improving one has a lesser number
pub record EntersOf (d : Dictionary) (row : List ℚ) (kept : List (ℕ × ℚ)) (n b : ℕ) : Type 0 where
  pub improves : Improves d row b
  pub least : (k : ℕ) → k < n → Improves d row (pair_at kept k).0 → slice_index d.nonbasic b ≤ slice_index d.nonbasic (pair_at kept k).0

-- the choice among the columns of the first n entries, or that none of them improves
abbrev pub EntersAmong : Dictionary → List ℚ → List (ℕ × ℚ) → ℕ → Option ℕ → Type 0
EntersAmong d row kept n o = MatchOption o ((k : ℕ) → k < n → Improves d row (pair_at kept k).0 → ⊥) (λ b. EntersOf d row kept n b)

-- b leaves, as far as the first n rows say
pub record LeavesOf (d : Dictionary) (c n b : ℕ) (ratio : ℚ) : Type 0 where
  pub candidate : IsCandidate d c b
  pub value : ratio ≡ ratio_of d c b
  pub least : (k : ℕ) → k < n → IsCandidate d c k → ratio_of d c b ≤ℚ ratio_of d c k
  pub ties : (k : ℕ) → k < n → IsCandidate d c k → ratio_of d c k ≡ ratio_of d c b → slice_index d.basic b ≤ slice_index d.basic k

-- the row with the least constant of the first n rows
pub record WorstOf (d : Dictionary) (n b : ℕ) : Type 0 where
  pub row : b < length d.basic
  pub least : (k : ℕ) → k < n → at (row_of d b) 0 ≤ℚ at (row_of d k) 0
  pub ties : (k : ℕ) → k < n → at (row_of d k) 0 ≡ at (row_of d b) 0 → slice_index d.basic b ≤ slice_index d.basic k

-- the choice among the first n rows, or that there are none
abbrev pub WorstAmong : Dictionary → ℕ → Option ℕ → Type 0
WorstAmong d n o = MatchOption o (n ≡ 0) (λ b. WorstOf d n b)

-- of the candidates of the first n rows whose ratio is not narrow the one of least number
pub record BlockedOf (d : Dictionary) (c n b : ℕ) : Type 0 where
  pub candidate : IsCandidate d c b
  pub wide : ¬ (IsNarrowRatio d c b)
  pub least : (k : ℕ) → k < n → IsCandidate d c k → ¬ (IsNarrowRatio d c k) → slice_index d.basic b ≤ slice_index d.basic k

-- the dictionary is one of the run of some program
abbrev pub IsReachedOfSome : Dictionary → Type 0
IsReachedOfSome d = (p : Program) × IsRegular p × IsReached p d
