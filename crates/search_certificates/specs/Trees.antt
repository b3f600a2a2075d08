-- The tree of a search that is over, as that of a certificate.
use Rattle.std.specs.Prelude.{◌≡◌, ◌⊎◌, Option, Some, None}
use Rattle.linear_models.specs.Model.{Model}
use Rattle.opt_certificate.specs.Certificate.{Tree, split, best, empty, clash, Claim}
use Rattle.opt_certificate.specs.Certificate as certificate
use Rattle.searches.specs.Trees.{Node, in_clash}
use Rattle.searches.specs.Trails.{State}
use Rattle.searches.specs.Answers.{Answer, optimal, infeasible, unbounded}
use Rattle.search_certificates.specs.Nodes.{IsOpened, IsLastRoot, IsSplitIn}
use Rattle.search_certificates.specs.Leaves.{IsEmptyLeaf, IsBestLeaf, IsWaitingLeaf}

-- the tree below a node: where it was split, the trees of its two parts; else a leaf
abbrev pub IsTreeAt : Model → State → Node → Tree → Type 0
IsTreeAt m s n (split j f low high) = (a : Node) × (b : Node) × IsSplitIn s n j f a b × (IsTreeAt m s a low × IsTreeAt m s b high)
IsTreeAt m s n (best ys) = IsBestLeaf m s n ys ⊎ IsWaitingLeaf s n ys
IsTreeAt m s n (empty ys) = IsEmptyLeaf m s n ys
IsTreeAt m s n (clash i j) = IsOpened s n (in_clash i j)

-- the last tree of the search, from its root on
abbrev pub IsLastTree : Model → State → Tree → Type 0
IsLastTree m s t = (r : Node) × IsLastRoot s r × IsTreeAt m s r t

-- an unbounded answer has no tree
abbrev pub IsTreeOf : Model → State → Answer → Option Tree → Type 0
IsTreeOf m s (optimal x v) tree = (t : Tree) × (tree ≡ Some t) × IsLastTree m s t
IsTreeOf m s infeasible tree = (t : Tree) × (tree ≡ Some t) × IsLastTree m s t
IsTreeOf m s (unbounded x d) tree = tree ≡ None

-- what an answer claims
abbrev pub claim_of_answer : Answer → Claim
claim_of_answer (optimal x v) = certificate.optimal x
claim_of_answer infeasible = certificate.infeasible
claim_of_answer (unbounded x d) = certificate.unbounded x d
