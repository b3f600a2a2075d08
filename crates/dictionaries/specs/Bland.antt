-- Bland's rule (Chvátal, chapter 3): of the improving variables the one of least number enters, of the rows with the least ratio the one of least number leaves.
use Rattle.std.specs.Prelude.{◌≡◌, ◌≢◌, ◌<◌, ◌≤◌, ℕ, suc, List, length, slice_index}
use Rattle.fractions.specs.Rational.{ℚ, ◌/ℚ◌, neg_ℚ, ◌≤ℚ◌, ◌<ℚ◌, zero_ℚ}
use Rattle.fractions.specs.Vectors.{at}
use Rattle.dictionaries.specs.Dictionary.{Dictionary, row_of, IsFeasible, IsBasic, IsNonBasic}
use Rattle.dictionaries.specs.Narrow.{IsNarrowQuotient}

-- the variable of the column c improves the objective of that row; variable 0 never enters by this rule
pub record Improves (d : Dictionary) (row : List ℚ) (c : ℕ) : Type 0 where
  pub column : c < length d.nonbasic
  pub variable : slice_index d.nonbasic c ≢ 0
  pub entry : zero_ℚ <ℚ at row (suc c)

-- no variable improves the objective of the row
abbrev pub IsOptimal : Dictionary → List ℚ → Type 0
IsOptimal d row = (c : ℕ) → Improves d row c → ⊥

-- the improving variable of least number
pub record Enters (d : Dictionary) (row : List ℚ) (c : ℕ) : Type 0 where
  pub improves : Improves d row c
  pub least : (k : ℕ) → Improves d row k → slice_index d.nonbasic c ≤ slice_index d.nonbasic k

-- ---- the leaving variable
-- a row that bounds the variable of the column c
pub record IsCandidate (d : Dictionary) (c r : ℕ) : Type 0 where
  pub row : r < length d.basic
  pub entry : at (row_of d r) (suc c) <ℚ zero_ℚ

-- how far the row lets that variable grow
abbrev pub ratio_of : Dictionary → ℕ → ℕ → ℚ
ratio_of d c r = at (row_of d r) 0 /ℚ neg_ℚ (at (row_of d r) (suc c))

-- of the candidates with the least ratio the one of least number
pub record Leaves (d : Dictionary) (c r : ℕ) : Type 0 where
  pub candidate : IsCandidate d c r
  pub least : (k : ℕ) → IsCandidate d c k → ratio_of d c r ≤ℚ ratio_of d c k
  pub ties : (k : ℕ) → IsCandidate d c k → ratio_of d c k ≡ ratio_of d c r → slice_index d.basic r ≤ slice_index d.basic k

-- ---- ratios that aren't narrow
-- the ratio of the row is narrow
abbrev pub IsNarrowRatio : Dictionary → ℕ → ℕ → Type 0
IsNarrowRatio d c r = IsNarrowQuotient (at (row_of d r) 0) (neg_ℚ (at (row_of d r) (suc c)))

-- of the candidates whose ratio isn't narrow the one of least number
pub record HasWideRatio (d : Dictionary) (c r : ℕ) : Type 0 where
  pub candidate : IsCandidate d c r
  pub wide : ¬ (IsNarrowRatio d c r)
  pub least : (k : ℕ) → IsCandidate d c k → ¬ (IsNarrowRatio d c k) → slice_index d.basic r ≤ slice_index d.basic k

-- the row of the next pivot: that of the leaving variable, or one whose ratio isn't narrow, where the pivot is never made
pub data IsPivotRow (d : Dictionary) (c r : ℕ) : Type 0 where
  leaves : ((k : ℕ) → IsCandidate d c k → IsNarrowRatio d c k) → Leaves d c r → IsPivotRow d c r
  too_wide : HasWideRatio d c r → IsPivotRow d c r

-- the entering variable by Bland's rule, with the row of its pivot
pub record IsBlandPivot (d : Dictionary) (row : List ℚ) (r c : ℕ) : Type 0 where
  pub enters : Enters d row c
  pub pivot_row : IsPivotRow d c r

-- ---- the two phases
-- variable 0 enters, and the row with the least constant leaves, of several the one of least number
pub record Begins (d : Dictionary) (r c : ℕ) : Type 0 where
  pub column : c < length d.nonbasic
  pub extra : slice_index d.nonbasic c ≡ 0
  pub row : r < length d.basic
  pub negative : at (row_of d r) 0 <ℚ zero_ℚ
  pub least : (k : ℕ) → k < length d.basic → at (row_of d r) 0 ≤ℚ at (row_of d k) 0
  pub ties : (k : ℕ) → k < length d.basic → at (row_of d k) 0 ≡ at (row_of d r) 0 → slice_index d.basic r ≤ slice_index d.basic k

-- variable 0 leaves, at the non-basic variable of least number with an entry other than 0
pub record Retires (d : Dictionary) (r c : ℕ) : Type 0 where
  pub row : r < length d.basic
  pub extra : slice_index d.basic r ≡ 0
  pub column : c < length d.nonbasic
  pub entry : at (row_of d r) (suc c) ≢ zero_ℚ
  pub least : (k : ℕ) → k < length d.nonbasic → at (row_of d r) (suc k) ≢ zero_ℚ → slice_index d.nonbasic c ≤ slice_index d.nonbasic k

-- phase 1 looks for a point, phase 2 for the best one
pub data Phase : Type 0 where
  one : Phase
  two : Phase

-- what the phase makes greater
abbrev pub goal_of : Phase → Dictionary → List ℚ
goal_of one d = d.auxiliary
goal_of two d = d.objective

-- phase 1 lasts as long as variable 0 is basic; phase 2 never lets it enter
abbrev pub IsInPhase : Phase → Dictionary → Type 0
IsInPhase one d = IsBasic d 0
IsInPhase two d = IsNonBasic d 0 × IsFeasible d

-- ---- the next pivot, which the dictionary alone gives
-- the pivot of row r and column c is next: phase 1 begins, a phase goes on, or variable 0 leaves at the end of phase 1
pub data NextPivot (d : Dictionary) (r c : ℕ) : Type 0 where
  begins : Begins d r c → NextPivot d r c
  goes_on : (phase : Phase) → IsInPhase phase d → IsBlandPivot d (goal_of phase d) r c → NextPivot d r c
  retires : IsInPhase one d → IsOptimal d d.auxiliary → at d.auxiliary 0 ≡ zero_ℚ → Retires d r c → NextPivot d r c

-- ---- where a run ends
-- no row bounds the entering variable
abbrev pub IsUnbounded : Dictionary → ℕ → Type 0
IsUnbounded d c = (r : ℕ) → IsCandidate d c r → ⊥

-- phase 2 has its optimum
pub record IsBestEnd (d : Dictionary) : Type 0 where
  pub phase : IsInPhase two d
  pub optimal : IsOptimal d d.objective

-- phase 1 has its optimum, and it is below 0
pub record IsInfeasibleEnd (d : Dictionary) : Type 0 where
  pub phase : IsInPhase one d
  pub optimal : IsOptimal d d.auxiliary
  pub below : at d.auxiliary 0 <ℚ zero_ℚ

-- the variable of the column c enters in phase 2, and grows without bound
pub record IsUnboundedEnd (d : Dictionary) (c : ℕ) : Type 0 where
  pub phase : IsInPhase two d
  pub enters : Enters d d.objective c
  pub unbounded : IsUnbounded d c

-- the run ends here, in one of three ways
pub data HasEnded (d : Dictionary) : Type 0 where
  best : IsBestEnd d → HasEnded d
  infeasible : IsInfeasibleEnd d → HasEnded d
  unbounded : (c : ℕ) → IsUnboundedEnd d c → HasEnded d
