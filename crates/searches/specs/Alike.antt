-- Two decisions of a group that hold the same number at a point, and where the box is split then.
use Rattle.std.specs.Prelude.{◌≡◌, ◌≢◌, ◌<◌, ◌≤◌, ◌⊎◌, ℕ, true, List, All, Some, slice_get, ℤ, pos, ◌+ℤ◌}
use Rattle.fractions.specs.Rational.{ℚ, ◌<ℚ◌}
use Rattle.fractions.specs.Vectors.{at}
use Rattle.fractions.specs.Whole.{whole_ℚ}
use Rattle.optimality.specs.Problem.{Assignment}
use Rattle.optimality.specs.Groups.{AreDifferent}
use Rattle.linear_models.specs.Box.{Box, InBox, bound_at}
use Rattle.linear_models.specs.Statement.{IsOnce, is_in}
use Rattle.opt_certificate.specs.Clashes.{IsClash}

-- ---- decisions that hold the same number
-- two decisions of the group, the first of less number, hold the same number
pub record AreAlike (x : Assignment) (group : List ℕ) (i j : ℕ) : Type 0 where
  pub one : is_in i group ≡ true
  pub other : is_in j group ≡ true
  pub before : i < j
  pub same : at x i ≡ at x j

-- of those of the first group that has any, the first one of least number and then the second
pub record AreFirstAlike (x : Assignment) (groups : List (List ℕ)) (i j : ℕ) : Type 0 where
  pub place : ℕ
  pub group : List ℕ
  pub group_is : slice_get groups place ≡ Some group
  pub alike : AreAlike x group i j
  pub first_group : (k : ℕ) (g : List ℕ) (a b : ℕ) → k < place → slice_get groups k ≡ Some g → AreAlike x g a b → ⊥
  pub least : (a b : ℕ) → AreAlike x group a b → i ≤ a
  pub then_least : (b : ℕ) → AreAlike x group i b → j ≤ b

-- ---- where the box is split then
-- the decision's two bounds are different ones
abbrev pub BoundsDiffer : Box → ℕ → Type 0
BoundsDiffer box j = bound_at box.least j ≢ bound_at box.greatest j

-- at the first of the two whose bounds differ
pub data SplitsAt (box : Box) (i j : ℕ) : ℕ → Type 0 where
  at_first : BoundsDiffer box i → SplitsAt box i j i
  at_second : ¬ (BoundsDiffer box i) → BoundsDiffer box j → SplitsAt box i j j

-- below its number where the lower bound is below that, else above it
pub data FloorIs (box : Box) (c : ℕ) (x : ℚ) : ℤ → Type 0 where
  before_number : (b : ℚ) (f : ℤ) → bound_at box.least c ≡ Some b → b <ℚ x → whole_ℚ (f +ℤ pos 1) ≡ x → FloorIs box c x f
  at_number : (b : ℚ) (f : ℤ) → bound_at box.least c ≡ Some b → ¬ (b <ℚ x) → whole_ℚ f ≡ x → FloorIs box c x f

-- ---- laws
-- both bounds of the decision are whole numbers
pub record HasTwoBounds (box : Box) (j : ℕ) : Type 0 where
  pub low : ℤ
  pub high : ℤ
  pub least : bound_at box.least j ≡ Some (whole_ℚ low)
  pub greatest : bound_at box.greatest j ≡ Some (whole_ℚ high)

-- where two decisions are alike at a point of the box, and the bounds of neither differ, they clash
abbrev pub ClosedAtClash : Type 0
ClosedAtClash = (groups : List (List ℕ)) (box : Box) (x : Assignment) (i j : ℕ) → InBox box x → AreFirstAlike x groups i j → HasTwoBounds box i → HasTwoBounds box j
    → ¬ (BoundsDiffer box i) → ¬ (BoundsDiffer box j) → IsClash groups box i j

-- at each point either all groups are different, or two decisions are the first that are alike
pub record AlikeOrDifferent : Type 0 where
  pub either : (x : Assignment) (groups : List (List ℕ)) → All IsOnce groups → All (AreDifferent x) groups ⊎ ((i : ℕ) × (j : ℕ) × AreFirstAlike x groups i j)
  pub not_both : (x : Assignment) (groups : List (List ℕ)) (i j : ℕ) → All (AreDifferent x) groups → AreFirstAlike x groups i j → ⊥
  pub one_pair : (x : Assignment) (groups : List (List ℕ)) (i j a b : ℕ) → AreFirstAlike x groups i j → AreFirstAlike x groups a b → (i ≡ a) × (j ≡ b)
