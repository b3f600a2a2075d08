-- The last root of a frontier. No public clause cites this module.
use Rattle.std.specs.Prelude.{◌≡◌, ◌≤◌, ◌⊎◌, ℕ, List, [], Some, slice_get}
use Rattle.node_pick.specs.declared.info.NodeInfo.{NodeInfo}
use Rattle.searches.specs.Trees.{Part}
use Rattle.branch_bound.specs.declared.frontier.Frontier.{Frontier}
use Rattle.branch_bound.specs.declared.frontier.Visit.{Visit}
use Rattle.branch_bound.specs.States.{path_of}

-- the greater of a number and that of a node, if this is a root
pub record IsLaterRoot (paths : List (List Part)) (last n r : ℕ) : Type 0 where
  pub least : last ≤ r
  pub root : path_of paths n ≡ [] → n ≤ r
  pub one : (r ≡ last) ⊎ ((r ≡ n) × (path_of paths n ≡ []))

-- a node of the frontier has the number
abbrev pub HasNumber : Frontier → ℕ → Type 0
HasNumber f n = ((i : ℕ) × (v : Visit) × (slice_get f.opened.items i ≡ Some v) × (v.number ≡ n)) ⊎ ((i : ℕ) × (x : NodeInfo) × (slice_get f.waiting.items i ≡ Some x) × (x.number ≡ n))

-- no root of the frontier has a greater number; it is that of a root, or 0
pub record IsLastOf (f : Frontier) (r : ℕ) : Type 0 where
  pub last : (n : ℕ) → HasNumber f n → path_of f.paths.paths n ≡ [] → n ≤ r
  pub one : (r ≡ 0) ⊎ (HasNumber f r × (path_of f.paths.paths r ≡ []))
