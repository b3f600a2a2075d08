-- The nodes of a search, by what is kept of them.
use Rattle.std.specs.Prelude.{◌≡◌, ◌⊎◌, ◌≤◌, ℕ, suc, List, [], ◌∷◌, ◌++◌, Some, slice_get, ℤ}
use Rattle.searches.specs.Trees.{Part, lower, upper, Node, Ending, in_parts}
use Rattle.searches.specs.Trails.{State}

-- the node was opened, and ended so after so many pivots
pub record IsOpened (s : State) (n : Node) (e : Ending) : Type 0 where
  pub pivots : ℕ
  pub place : ℕ
  pub there : slice_get s.opened place ≡ Some record { node = n; pivots = pivots; ending = e }

-- it waits
abbrev pub IsWaiting : State → Node → Type 0
IsWaiting s n = (place : ℕ) × (slice_get s.waiting place ≡ Some n)

-- it was opened or waits
abbrev pub IsThere : State → Node → Type 0
IsThere s n = ((e : Ending) × IsOpened s n e) ⊎ IsWaiting s n

-- a root, and no root has a greater number
pub record IsLastRoot (s : State) (r : Node) : Type 0 where
  pub there : IsThere s r
  pub path : r.path ≡ []
  pub last : (n : Node) → IsThere s n → n.path ≡ [] → n.number ≤ r.number

-- the node was split at the decision and the floor, and these are its parts
pub record IsSplitIn (s : State) (n : Node) (j : ℕ) (f : ℤ) (low high : Node) : Type 0 where
  pub opened : IsOpened s n (in_parts low.number)
  pub next : high.number ≡ suc low.number
  pub low_path : low.path ≡ n.path ++ lower j f ∷ []
  pub high_path : high.path ≡ n.path ++ upper j f ∷ []
