-- The tree of a branch and bound search: its nodes, and what becomes of those that are opened.
-- (Schrijver, Theory of Linear and Integer Programming, chapter 24.)
use Rattle.std.specs.Prelude.{ℕ, suc, List, [], ◌∷◌, ◌++◌, length, Option, Some, None, ℤ}
use Rattle.fractions.specs.Rational.{ℚ}
use Rattle.node_pick.specs.declared.info.NodeInfo.{NodeInfo}
use Rattle.linear_models.specs.Box.{Box}
use Rattle.opt_certificate.specs.Certificate.{lower_child, upper_child}

-- a part of a box: a decision is at most the floor, or at least the whole number above it
pub data Part : Type 0 where
  lower : (decision : ℕ) (floor : ℤ) → Part
  upper : (decision : ℕ) (floor : ℤ) → Part

-- the part as a box
abbrev pub part_of : Box → Part → Box
part_of box (lower j f) = lower_child box j f
part_of box (upper j f) = upper_child box j f

-- the part of the part, and so on
abbrev pub box_along : Box → List Part → Box
box_along box [] = box
box_along box (p ∷ ps) = box_along (part_of box p) ps

-- a node is reached from the root by the parts of its path; its bound is the optimal value of its parent's program
pub record Node : Type 0 where
  pub number : ℕ
  pub path : List Part
  pub bound : Option ℚ

-- what becomes of an opened node: its program has no point; its value is not better than that of a point found before; its point is a whole one and is found;
-- it is split at a decision and a floor; two decisions of a group hold the same number at its point and are fixed to it; its program is unbounded, with a point and a direction
pub data End : Type 0 where
  empty : End
  beaten : (value : ℚ) → End
  whole : (point : List ℚ) (value : ℚ) → End
  split : (decision : ℕ) (floor : ℤ) (value : ℚ) → End
  clash : (first second : ℕ) (value : ℚ) → End
  endless : (point direction : List ℚ) → End

-- what is kept of an end: the number of the lower part of a split, which the upper part's follows; the two decisions of a clash; or that it is neither
pub data Ending : Type 0 where
  in_parts : (lower : ℕ) → Ending
  in_clash : (first second : ℕ) → Ending
  in_leaf : Ending

-- the same of an end after which new nodes are numbered from n on
abbrev pub ending_at : ℕ → End → Ending
ending_at n (split j f value) = in_parts n
ending_at n (clash i j value) = in_clash i j
ending_at n empty = in_leaf
ending_at n (beaten value) = in_leaf
ending_at n (whole point value) = in_leaf
ending_at n (endless point direction) = in_leaf

-- the root of a tree, by its number
abbrev pub root : ℕ → Node
root n = record { number = n; path = []; bound = None }

-- the node of a part
abbrev pub child : ℕ → Node → Part → ℚ → Node
child n node part value = record { number = n; path = node.path ++ part ∷ []; bound = Some value }

-- the nodes that come of an end, numbered from n on: two parts, the lower one first, or the root of a second tree
abbrev pub new_nodes : ℕ → Node → End → List Node
new_nodes n node (split j f value) = child n node (lower j f) value ∷ child (suc n) node (upper j f) value ∷ []
new_nodes n node (endless point direction) = root n ∷ []
new_nodes n node empty = []
new_nodes n node (beaten value) = []
new_nodes n node (whole point value) = []
new_nodes n node (clash i j value) = []

-- a whole point, and its value
pub record Found : Type 0 where
  pub point : List ℚ
  pub value : ℚ

-- the best whole point found: the latest, since each is better than those before
abbrev pub found_at : End → Option Found → Option Found
found_at (whole point value) before = Some record { point = point; value = value }
found_at empty before = before
found_at (beaten value) before = before
found_at (split j f value) before = before
found_at (clash i j value) before = before
found_at (endless point direction) before = before

-- the point and the direction of an unbounded program, after which the objective is 0
pub record Way : Type 0 where
  pub point : List ℚ
  pub direction : List ℚ

-- the way out that is known after an end
abbrev pub way_at : End → Option Way → Option Way
way_at (endless point direction) before = Some record { point = point; direction = direction }
way_at empty before = before
way_at (beaten value) before = before
way_at (split j f value) before = before
way_at (whole point value) before = before
way_at (clash i j value) before = before

-- a node as a picker sees it
abbrev pub info : Node → NodeInfo
info node = record { number = node.number; depth = length node.path; bound = node.bound }
