-- Nodes of true trees: each node that is split is split at a decision that is to be whole, whose number at a basic optimal point of the node's program lies strictly between the two parts,
-- or is also that of another decision of its group.
-- (Schrijver, Theory of Linear and Integer Programming, chapter 24.)
use Rattle.std.specs.Prelude.{◌≡◌, ◌≢◌, ◌⊎◌, ℕ, Bool, true, false, List, [], ◌∷◌, All, Option, Some, slice_get, ℤ, pos, ◌+ℤ◌, ◌≤ℤ◌}
use Rattle.fractions.specs.Rational.{ℚ, ◌≤ℚ◌, ◌<ℚ◌}
use Rattle.fractions.specs.Whole.{whole_ℚ}
use Rattle.fractions.specs.Vectors.{at}
use Rattle.linear_programs.specs.Program.{Program}
use Rattle.dictionaries.specs.Dictionary.{Dictionary, IsDictionaryOf}
use Rattle.dictionaries.specs.Bland.{IsBestEnd}
use Rattle.node_pick.specs.Rules.{Rule}
use Rattle.linear_models.specs.Box.{Box, bound_at}
use Rattle.linear_models.specs.Model.{Model, AreWhole, IsValid, is_whole_at}
use Rattle.linear_models.specs.Statement.{is_in}
use Rattle.linear_models.specs.Standard.{standard}
use Rattle.linear_models.specs.Laws.{IsBoxPoint}
use Rattle.opt_certificate.specs.Certificate.{IsWayOut}
use Rattle.searches.specs.Trees.{Part, lower, upper, part_of, Way}
use Rattle.searches.specs.Trails.{State, Work, SearchUnit, Trail, is_plain, decisions_at}

-- the decisions of a basic optimal point: that of a dictionary of the program in which nothing improves
pub record IsBasicBest (p : Program) (x : List ℚ) : Type 0 where
  pub dictionary : Dictionary
  pub represents : IsDictionaryOf p dictionary
  pub is_best : IsBestEnd dictionary
  pub point : x ≡ decisions_at p dictionary

-- the decision is to be whole, and its number there is above the floor and below the next whole number
pub record IsSplitBetween (m : Model) (plain : Bool) (box : Box) (j : ℕ) (f : ℤ) : Type 0 where
  pub marked : is_whole_at m.whole j ≡ true
  pub point : List ℚ
  pub best : IsBasicBest (standard m box plain) point
  pub above : whole_ℚ f <ℚ at point j
  pub below : at point j <ℚ whole_ℚ (f +ℤ pos 1)

-- a whole number between the decision's bounds in the box
pub record IsWholeValue (box : Box) (j : ℕ) (z : ℤ) : Type 0 where
  pub least : (b : ℚ) → bound_at box.least j ≡ Some b → b ≤ℚ whole_ℚ z
  pub greatest : (b : ℚ) → bound_at box.greatest j ≡ Some b → whole_ℚ z ≤ℚ b

-- all decisions that are to be whole are so there, two of a group hold the same number, and either part holds a whole value of the first one
pub record IsSplitAlike (m : Model) (plain : Bool) (box : Box) (j : ℕ) (f : ℤ) : Type 0 where
  pub marked : is_whole_at m.whole j ≡ true
  pub point : List ℚ
  pub best : IsBasicBest (standard m box plain) point
  pub whole : AreWhole m.whole point
  pub place : ℕ
  pub group : List ℕ
  pub group_is : slice_get m.groups place ≡ Some group
  pub one : is_in j group ≡ true
  pub partner : ℕ
  pub other : is_in partner group ≡ true
  pub differ : j ≢ partner
  pub same : at point j ≡ at point partner
  pub low : (z : ℤ) × IsWholeValue box j z × (z ≤ℤ f)
  pub high : (z : ℤ) × IsWholeValue box j z × ((f +ℤ pos 1) ≤ℤ z)

-- the box may be split so
pub data IsTrueSplit (m : Model) (plain : Bool) (box : Box) (j : ℕ) (f : ℤ) : Type 0 where
  split_between : IsSplitBetween m plain box j f → IsTrueSplit m plain box j f
  split_alike : IsSplitAlike m plain box j f → IsTrueSplit m plain box j f

-- a tree of splits; a leaf isn't split
pub data SplitTree : Type 0 where
  leaf : SplitTree
  split_at : (decision : ℕ) (floor : ℤ) (low high : SplitTree) → SplitTree

-- each split of the box and of its parts is a true one
abbrev pub IsTrueTree : Model → Bool → Box → SplitTree → Type 0
IsTrueTree m plain box leaf = Unit {0}
IsTrueTree m plain box (split_at j f low high) =
    IsTrueSplit m plain box j f × (IsTrueTree m plain (part_of box (lower j f)) low × IsTrueTree m plain (part_of box (upper j f)) high)

-- the path leads to a node of the tree
abbrev pub HasNode : SplitTree → List Part → Type 0
HasNode t [] = Unit {0}
HasNode leaf (p ∷ ps) = ⊥
HasNode (split_at j f low high) (lower i g ∷ ps) = (i ≡ j) × ((g ≡ f) × HasNode low ps)
HasNode (split_at j f low high) (upper i g ∷ ps) = (i ≡ j) × ((g ≡ f) × HasNode high ps)

-- the node is one of the tree of the model, or after an unbounded program of that of the model with objective 0
abbrev pub IsNodeOf : (Bool → SplitTree) → Option Way → List Part → Type 0
IsNodeOf trees way path = HasNode (trees false) path ⊎ ((is_plain way ≡ true) × HasNode (trees true) path)

-- a true tree of the model and one of the model with objective 0 have all nodes that were opened, are worked on or wait;
-- and the second one counts only where the model's box has a point and a way out of it
pub record HasTrueTrees (m : Model) (s : State) : Type 0 where
  pub trees : Bool → SplitTree
  pub are_true : (plain : Bool) → IsTrueTree m plain m.bounds (trees plain)
  pub opened : All (λ o. IsNodeOf trees s.way o.node.path) s.opened
  pub waiting : All (λ n. HasNode (trees (is_plain s.way)) n.path) s.waiting
  pub work : (w : Work) → s.work ≡ Some w → HasNode (trees (is_plain s.way)) w.node.path
  pub way : (w : Way) → s.way ≡ Some w → IsBoxPoint m m.bounds w.point × IsWayOut m w.direction

-- so it is along every trail
abbrev pub TreesAreTrue : Type 0
TreesAreTrue = (m : Model) (rule : Rule) (us : List SearchUnit) (s : State) → IsValid m → Trail m rule us s → HasTrueTrees m s
