-- What holds of the trees and the trails of a model whose decisions that are to be whole have two bounds.
use Rattle.std.specs.Prelude.{◌≡◌, ℕ, ◌≤◌, ◌<◌, Bool, List, length, Some, ℤ, pos, ◌+ℤ◌, neg_ℤ}
use Rattle.fractions.specs.Rational.{ℚ, neg_ℚ, ◌≤ℚ◌}
use Rattle.fractions.specs.Floor.{floor_ℚ}
use Rattle.fractions.specs.Whole.{whole_ℚ}
use Rattle.node_pick.specs.Rules.{Rule}
use Rattle.linear_models.specs.Model.{Model, IsValid}
use Rattle.searches.specs.Trails.{State, SearchUnit, Trail}
use Rattle.searches.specs.TrueTrees.{SplitTree, IsTrueTree}
use Rattle.search_bounds.specs.Choices.{IsBounded, wholes_between}
use Rattle.search_bounds.specs.Enough.{enough_for}
use Rattle.search_bounds.specs.Trees.{SplitsInParts, most_nodes, nodes_in}

-- the least whole number that is at least a
abbrev pub first_whole : ℚ → ℤ
first_whole a = neg_ℤ (floor_ℚ (neg_ℚ a))

-- so many whole numbers are between two numbers, from the first one on, and no others
pub record WholesAreCounted : Type 0 where
  pub between : (a b : ℚ) (k : ℕ) → k < wholes_between (Some a) (Some b) → (a ≤ℚ whole_ℚ (first_whole a +ℤ pos k)) × (whole_ℚ (first_whole a +ℤ pos k) ≤ℚ b)
  pub all : (a b : ℚ) (z : ℤ) → a ≤ℚ whole_ℚ z → whole_ℚ z ≤ℚ b → (k : ℕ) × (k < wholes_between (Some a) (Some b)) × (z ≡ first_whole a +ℤ pos k)

-- each split of a true tree leaves a whole value of the decision on either side
abbrev pub TrueTreesSplitInParts : Type 0
TrueTreesSplitInParts = (m : Model) (plain : Bool) (t : SplitTree) → IsValid m → IsBounded m → IsTrueTree m plain m.bounds t → SplitsInParts m m.bounds t

-- so the tree is small
abbrev pub TreesAreSmall : Type 0
TreesAreSmall = (m : Model) (t : SplitTree) → IsValid m → IsBounded m → SplitsInParts m m.bounds t → nodes_in t ≤ most_nodes m m.bounds

-- fewer units than are stated to be enough lead to where no leaf is open, or to a pivot that isn't narrow: no trail is as long
abbrev pub StatedUnitsAreEnough : Type 0
StatedUnitsAreEnough = (m : Model) (rule : Rule) (us : List SearchUnit) (s : State) → IsValid m → IsBounded m → Trail m rule us s → length us < enough_for m
