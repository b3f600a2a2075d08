-- Parts of a list of nodes that are whole trees. No public clause cites this module.
use Rattle.std.specs.Prelude.{◌≡◌, ◌<◌, ◌≤◌, ℕ, List, ◌++◌, length, drop, slice_index_or}
use Rattle.opt_certificate.specs.Certificate.{Tree}
use Rattle.opt_certificate.specs.Nodes.{Node, listing, HasNarrowFloor}

-- a tree begins at the place k, and other nodes may follow it
pub record Part (nodes : List Node) (k : ℕ) : Type 0 where
  pub tree : Tree
  pub rest : List Node
  pub is : drop k nodes ≡ listing k tree ++ rest

-- at each place from k on a tree begins
abbrev pub PartsFrom : List Node → ℕ → Type 0
PartsFrom nodes k = (i : ℕ) → k ≤ i → i < length nodes → Part nodes i

-- what is asked of the node at a place where the later places are right: a tree begins there, and a floor fits
pub record IsRight (nodes : List Node) (k : ℕ) : Type 0 where
  pub part : Part nodes k
  pub floor : (d : Node) → HasNarrowFloor (slice_index_or nodes k d)
