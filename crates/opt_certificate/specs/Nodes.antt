-- A tree as the list of its nodes in preorder: the root first, and the lower part of a split before the upper one.
use Rattle.std.specs.Prelude.{◌≡◌, ◌+◌, ℕ, ℤ, pos, ◌+ℤ◌, List, [], ◌∷◌, ◌++◌, Option, Some, None}
use Rattle.fractions.specs.Rational.{ℚ}
use Rattle.frac128.specs.Narrow.{IsNarrowWhole}
use Rattle.linear_models.specs.Box.{Box}
use Rattle.opt_certificate.specs.Certificate.{Tree, split, best, empty, clash, lower_child, upper_child}

-- a split has the places of its two parts
pub data Node : Type 0 where
  split_at : (decision : ℕ) (floor : ℤ) (lower upper : ℕ) → Node
  best_leaf : (multipliers : List ℚ) → Node
  empty_leaf : (multipliers : List ℚ) → Node
  clash_leaf : (first second : ℕ) → Node

-- how many nodes a tree has
abbrev pub size : Tree → ℕ
size (split j f lower upper) = 1 + (size lower + size upper)
size (best ys) = 1
size (empty ys) = 1
size (clash i j) = 1

-- its nodes from the place k on
abbrev pub listing : ℕ → Tree → List Node
listing k (split j f lower upper) = split_at j f (k + 1) (k + (1 + size lower)) ∷ (listing (k + 1) lower ++ listing (k + (1 + size lower)) upper)
listing k (best ys) = best_leaf ys ∷ []
listing k (empty ys) = empty_leaf ys ∷ []
listing k (clash i j) = clash_leaf i j ∷ []

-- no node, or one tree
abbrev pub IsListed : List Node → Option Tree → Type 0
IsListed nodes None = nodes ≡ []
IsListed nodes (Some t) = nodes ≡ listing 0 t

-- nodes are those of one tree at most
abbrev pub ListedOnce : Type 0
ListedOnce = (nodes : List Node) (t u : Option Tree) → IsListed nodes t → IsListed nodes u → t ≡ u

-- the floor and the whole number above it fit
abbrev pub HasNarrowFloor : Node → Type 0
HasNarrowFloor (split_at j f lower upper) = IsNarrowWhole f × IsNarrowWhole (f +ℤ pos 1)
HasNarrowFloor (best_leaf ys) = Unit {0}
HasNarrowFloor (empty_leaf ys) = Unit {0}
HasNarrowFloor (clash_leaf i j) = Unit {0}

-- ---- nodes with their boxes
-- each node of a tree with its box, in preorder
abbrev pub boxed : Box → Tree → List (Box × Node)
boxed box (split j f lower upper) = (box, split_at j f 0 0) ∷ (boxed (lower_child box j f) lower ++ boxed (upper_child box j f) upper)
boxed box (best ys) = (box, best_leaf ys) ∷ []
boxed box (empty ys) = (box, empty_leaf ys) ∷ []
boxed box (clash i j) = (box, clash_leaf i j) ∷ []

-- the same where there may be no tree
abbrev pub boxed_or_none : Box → Option Tree → List (Box × Node)
boxed_or_none box None = []
boxed_or_none box (Some t) = boxed box t
