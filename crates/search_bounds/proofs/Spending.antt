-- The units that are spent, and what the nodes that wait may still spend.
use Rattle.std.proofs.Common.{ℕ, ◌+◌, ◌*◌, ◌≤◌, arith}
use Rattle.std.specs.Prelude.{Option, Some, None}
use Rattle.std.proofs.Math.Nat.{mul-le-mul_left}
use Rattle.dictionaries.specs.Dictionary.{Dictionary, first_of_program}
use Rattle.dictionaries.specs.Run.{Leads}
use Rattle.linear_models.specs.Model.{Model}
use Rattle.searches.specs.Trees.{Node}
use Rattle.searches.specs.Trails.{State, Work, box_of, node_program}
use Rattle.searches.proofs.Members.{In}
use Rattle.search_bounds.specs.Trees.{most_nodes}
use Rattle.search_bounds.proofs.Programs.{bases_of}
use Rattle.search_bounds.proofs.Weighing.{reserve, weight, weights}
use Rattle.search_bounds.proofs.WholeBounds.{HasWholeBounds}

-- so many units are spent, and what waits fits in the rest
pub record IsSpent (m : Model) (u : ℕ) (s : State) : Type 0 where
  pub fits : (n : Node) → In s.waiting n → HasWholeBounds m (box_of m n)
  pub spent : u + bases_of m * (weights m s.waiting + reserve m s.way) ≤ bases_of m * (2 * most_nodes m m.bounds)

-- the same with a node that is worked on, k pivots after its opening
pub record IsSpentWith (m : Model) (u : ℕ) (s : State) (node : Node) (k : ℕ) (d : Dictionary) : Type 0 where
  pub fits : (n : Node) → In s.waiting n → HasWholeBounds m (box_of m n)
  pub fits_too : HasWholeBounds m (box_of m node)
  pub spent : u + bases_of m * (weight m node + (weights m s.waiting + reserve m s.way)) ≤ bases_of m * (2 * most_nodes m m.bounds) + (1 + k)
  pub run : Leads k (first_of_program (node_program m s.way node)) d

abbrev pub IsSpentNow : Model → ℕ → State → Option Work → Type 0
IsSpentNow m u s None = IsSpent m u s
IsSpentNow m u s (Some w) = IsSpentWith m u s w.node w.pivots w.dictionary

-- what is left of the sums, by numbers alone: the node's weight pays for its opening and pivots, and for its parts
pub paid : (u c w r t k p : ℕ) → u + c * (w + r) ≤ t + (1 + k) → 1 + k ≤ c → 1 + p ≤ w → u + c * (p + r) ≤ t
paid u c w r t k p h b l = let q = mul-le-mul_left c l in omega (arith, h, b, q)
