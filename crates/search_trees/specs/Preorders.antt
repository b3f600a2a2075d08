-- Trees as the lists of their nodes in preorder, with the places of parts or without. No public clause cites this module.
use Rattle.std.specs.Prelude.{◌≡◌, ◌+◌, ℕ, List, [], ◌∷◌, ◌++◌, map}
use Rattle.opt_certificate.specs.Certificate.{Tree, split, best, empty, clash}
use Rattle.opt_certificate.specs.Nodes.{Node, split_at, best_leaf, empty_leaf, clash_leaf, listing, size}

-- a node whose parts have no places
abbrev pub bare : Node → Node
bare (split_at j f lower upper) = split_at j f 0 0
bare (best_leaf ys) = best_leaf ys
bare (empty_leaf ys) = empty_leaf ys
bare (clash_leaf i j) = clash_leaf i j

-- the nodes of a tree so
abbrev pub preorder : Tree → List Node
preorder (split j f lower upper) = split_at j f 0 0 ∷ (preorder lower ++ preorder upper)
preorder (best ys) = best_leaf ys ∷ []
preorder (empty ys) = empty_leaf ys ∷ []
preorder (clash i j) = clash_leaf i j ∷ []

-- those of trees one after the other
abbrev pub preorders : List Tree → List Node
preorders [] = []
preorders (t ∷ ts) = preorder t ++ preorders ts

-- with their places, from the place k on
abbrev pub nodes_of_trees : ℕ → List Tree → List Node
nodes_of_trees k [] = []
nodes_of_trees k (t ∷ ts) = listing k t ++ nodes_of_trees (k + size t) ts

-- the places where they begin, the first one last
abbrev pub starts_of_trees : ℕ → List Tree → List ℕ
starts_of_trees k [] = []
starts_of_trees k (t ∷ ts) = starts_of_trees (k + size t) ts ++ (k ∷ [])

-- a split is given the last two of the places
abbrev pub PartsSet : Node → List ℕ → Node → List ℕ → Type 0
PartsSet (split_at j f a b) starts node left = (rest : List ℕ) (upper lower : ℕ) → starts ≡ rest ++ (upper ∷ lower ∷ []) → (node ≡ split_at j f lower upper) × (left ≡ rest)
PartsSet (best_leaf ys) starts node left = (node ≡ best_leaf ys) × (left ≡ starts)
PartsSet (empty_leaf ys) starts node left = (node ≡ empty_leaf ys) × (left ≡ starts)
PartsSet (clash_leaf i j) starts node left = (node ≡ clash_leaf i j) × (left ≡ starts)

-- from the place k on the nodes have the places of their parts, and these are the places where trees begin
abbrev pub ArePlaced : ℕ → List Node → List Node → List ℕ → Type 0
ArePlaced k old nodes starts = (ts : List Tree) → map bare old ≡ preorders ts → (nodes ≡ nodes_of_trees k ts) × (starts ≡ starts_of_trees k ts)
