-- The tree that a search which has ended is asked for.
use Rattle.std.specs.Prelude.{◌≡◌, ◌<◌, ◌≤◌, ◌⊎◌, ℕ, List, Option, Some, None, Result, Ok, Err, ⊤}
use Rattle.node_pick.specs.Rules.{Rule}
use Rattle.linear_models.specs.Model.{Model}
use Rattle.opt_certificate.specs.Certificate.{Tree}
use Rattle.opt_certificate.specs.Nodes.{Node, IsListed, listing}
use Rattle.searches.specs.Trails.{State, SearchUnit, Trail, HasNoMarks}
use Rattle.searches.specs.Answers.{Answer}
use Rattle.branch_bound.specs.declared.frontier.Found.{Found}
use Rattle.branch_bound.specs.declared.frontier.Frontier.{Frontier}
use Rattle.branch_bound.specs.declared.frontier.Way.{Way}
use Rattle.search_certificates.specs.Laws.{IsSearchTree}
use Rattle.search_certificates.specs.Trees.{IsLastTree}
use Rattle.search_certificates.specs.Weights.{weight_of}
use Rattle.search_trees.specs.declared.stop.TreeStop.{TreeStop}
use Rattle.search_trees.specs.declared.stop.TreeStop.TheVariants as stops

-- the greatest sum over the leaves of 1 and the rows of their programs
abbrev pub most_weight : ℕ
most_weight = 100000

-- no tree weighs more
abbrev pub IsLight : Model → Option Tree → Type 0
IsLight m None = ⊤
IsLight m (Some t) = weight_of m m.bounds t ≤ most_weight

-- the nodes of the search's tree in preorder; or it weighs more, and how much it weighs
abbrev pub TreeMade : Model → State → Answer → Result (List Node) TreeStop → Type 0
TreeMade m s a (Ok nodes) = (t : Option Tree) × IsSearchTree m s a t × IsListed nodes t × IsLight m t
TreeMade m s a (Err (stops.TooLong w)) = (t : Tree) × IsSearchTree m s a (Some t) × (w ≡ weight_of m m.bounds t) × (most_weight < w)
TreeMade m s a (Err stops.Memory) = ⊤

-- ---- what inner contracts cite
-- a trail of the model leads to the state
pub record IsOfSearch (m : Model) (s : State) : Type 0 where
  pub rule : Rule
  pub units : List SearchUnit
  pub trail : Trail m rule units s

-- the same of the last tree, whatever is answered
abbrev pub LastTreeMade : Model → State → Result (List Node) TreeStop → Type 0
LastTreeMade m s (Ok nodes) = (t : Tree) × IsLastTree m s t × (nodes ≡ listing 0 t) × (weight_of m m.bounds t ≤ most_weight)
LastTreeMade m s (Err (stops.TooLong w)) = (t : Tree) × IsLastTree m s t × (w ≡ weight_of m m.bounds t) × (most_weight < w)
LastTreeMade m s (Err stops.Memory) = ⊤

-- a way out is known, and a point to start from
abbrev pub IsUnboundedBy : Model → Frontier → Type 0
IsUnboundedBy m f = ((w : Way) × (f.way ≡ Some w)) × (((x : Found) × (f.found ≡ Some x)) ⊎ HasNoMarks m)
