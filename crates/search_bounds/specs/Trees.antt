-- Trees of splits that leave a whole value of the decision on either side, and their nodes.
-- (Schrijver, Theory of Linear and Integer Programming, chapter 24.)
use Rattle.std.specs.Prelude.{◌≡◌, ℕ, ◌+◌, ◌*◌, ◌-◌, true, Some, ℤ, pos, ◌+ℤ◌}
use Rattle.fractions.specs.Rational.{ℚ, ◌≤ℚ◌}
use Rattle.fractions.specs.Whole.{whole_ℚ}
use Rattle.optimality.specs.Problem.{Assignment}
use Rattle.linear_models.specs.Box.{Box, InBox, bound_at}
use Rattle.linear_models.specs.Model.{Model, is_whole_at}
use Rattle.searches.specs.Trees.{lower, upper, part_of}
use Rattle.searches.specs.TrueTrees.{SplitTree, leaf, split_at}
use Rattle.search_bounds.specs.Choices.{at_least_one, choices_in}

-- a decision that is to be whole has a whole value on either side of the split, in a box that isn't empty
pub record HasBothParts (m : Model) (box : Box) (j : ℕ) (f : ℤ) : Type 0 where
  pub marked : is_whole_at m.whole j ≡ true
  pub inside : Assignment
  pub in_box : InBox box inside
  pub low : (b : ℚ) → bound_at box.least j ≡ Some b → b ≤ℚ whole_ℚ f
  pub high : (b : ℚ) → bound_at box.greatest j ≡ Some b → whole_ℚ (f +ℤ pos 1) ≤ℚ b

-- each split of the box and of its parts leaves a whole value on either side
abbrev pub SplitsInParts : Model → Box → SplitTree → Type 0
SplitsInParts m box leaf = Unit {0}
SplitsInParts m box (split_at j f low high) =
    HasBothParts m box j f × (SplitsInParts m (part_of box (lower j f)) low × SplitsInParts m (part_of box (upper j f)) high)

abbrev pub nodes_in : SplitTree → ℕ
nodes_in leaf = 1
nodes_in (split_at j f low high) = 1 + (nodes_in low + nodes_in high)

-- the nodes that a tree of a box has at most
abbrev pub most_nodes : Model → Box → ℕ
most_nodes m box = 2 * at_least_one (choices_in m box) - 1
