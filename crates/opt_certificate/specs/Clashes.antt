-- Two decisions of one group that are fixed to one number: no point of such a box has different numbers in the group.
use Rattle.std.specs.Prelude.{◌≡◌, ◌≢◌, ℕ, true, List, All, Some, slice_get}
use Rattle.fractions.specs.Rational.{ℚ}
use Rattle.optimality.specs.Problem.{Assignment}
use Rattle.optimality.specs.Groups.{AreDifferent}
use Rattle.linear_models.specs.Box.{Box, InBox, bound_at}
use Rattle.linear_models.specs.Statement.{is_in}

-- one of the groups has both decisions
pub record ShareGroup (groups : List (List ℕ)) (i j : ℕ) : Type 0 where
  pub place : ℕ
  pub group : List ℕ
  pub group_is : slice_get groups place ≡ Some group
  pub one : is_in i group ≡ true
  pub other : is_in j group ≡ true

-- both bounds of the decision are that number
pub record IsFixedTo (box : Box) (j : ℕ) (value : ℚ) : Type 0 where
  pub least : bound_at box.least j ≡ Some value
  pub greatest : bound_at box.greatest j ≡ Some value

-- the bounds of both decisions are one number
pub record AreFixed (box : Box) (i j : ℕ) : Type 0 where
  pub value : ℚ
  pub one : IsFixedTo box i value
  pub other : IsFixedTo box j value

-- two different decisions of one group are fixed to one number
pub record IsClash (groups : List (List ℕ)) (box : Box) (i j : ℕ) : Type 0 where
  pub shared : ShareGroup groups i j
  pub differ : i ≢ j
  pub fixed : AreFixed box i j

-- a box with a clash has no point whose groups are different
abbrev pub ClashLeavesNoPoint : Type 0
ClashLeavesNoPoint = (groups : List (List ℕ)) (box : Box) (i j : ℕ) (a : Assignment) → IsClash groups box i j → InBox box a → All (AreDifferent a) groups → ⊥
