-- Going through the nodes of a tree in preorder, with the boxes of the parts that wait. No public clause cites this module.
use Rattle.std.specs.Prelude.{◌≡◌, Bool, true, false, List, [], ◌∷◌, ◌++◌, All, Option, Some, Result, Ok, Err, slice_get}
use Rattle.fractions.specs.Rational.{ℚ}
use Rattle.linear_models.specs.Box.{Box}
use Rattle.linear_models.specs.Model.{Model}
use Rattle.opt_certificate.specs.Certificate.{lower_child, upper_child}
use Rattle.opt_certificate.specs.Nodes.{Node, split_at, best_leaf, empty_leaf, clash_leaf}
use Rattle.opt_certificate.specs.Checks.{NodeProves, NodeIsNarrow}
use Rattle.opt_certificate.specs.declared.node.LeafStop.{LeafStop}
use Rattle.opt_certificate.specs.declared.node.LeafStop.TheVariants as leaf
use Rattle.opt_certificate.specs.declared.checking.CheckStop.{CheckStop}
use Rattle.opt_certificate.specs.declared.checking.CheckStop.TheVariants as stops

-- the boxes that wait after a node: of a split the upper part and on it the lower one
abbrev pub parts_of : Box → Node → List Box
parts_of box (split_at j f lower upper) = upper_child box j f ∷ lower_child box j f ∷ []
parts_of box (best_leaf ys) = []
parts_of box (empty_leaf ys) = []
parts_of box (clash_leaf i j) = []

-- the last waiting box is the node's; after a yes its parts wait in its place
abbrev pub Stepped : Model → Option ℚ → List Box → Box → Node → List Box → Result Bool LeafStop → Type 0
Stepped m target rest box node new (Ok true) = NodeProves m target (box, node) × (NodeIsNarrow m (box, node) × (new ≡ rest ++ parts_of box node))
Stepped m target rest box node new (Ok false) = ¬ (NodeProves m target (box, node))
Stepped m target rest box node new (Err leaf.Wide) = ¬ (NodeIsNarrow m (box, node))
Stepped m target rest box node new (Err leaf.Memory) = Unit {0}

-- all nodes prove what is asked of them, over narrow sums; or one doesn't; or a sum of the node of that number isn't narrow
abbrev pub Walked : Model → Option ℚ → List (Box × Node) → Result Bool CheckStop → Type 0
Walked m target all (Ok true) = All (NodeProves m target) all × All (NodeIsNarrow m) all
Walked m target all (Ok false) = ¬ (All (NodeProves m target) all)
Walked m target all (Err (stops.Wide n)) = (x : Box × Node) × (slice_get all n ≡ Some x) × ¬ (NodeIsNarrow m x)
Walked m target all (Err stops.Memory) = Unit {0}
