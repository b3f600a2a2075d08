-- Trees one after the other, as their lines and as their nodes. No public clause cites this module.
use Rattle.std.specs.Prelude.{◌≡◌, ◌+◌, ℕ, List, [], ◌∷◌, ◌++◌, Option, Some, None}
use Rattle.opt_certificate.specs.Certificate.{Tree}
use Rattle.opt_certificate.specs.Nodes.{Node, split_at, best_leaf, empty_leaf, clash_leaf, listing, size}
use Rattle.certificate_lines.specs.Line.{Line}
use Rattle.certificate_lines.specs.Cert.{tree_lines}

-- no tree, or one
abbrev pub trees_in : Option Tree → List Tree
trees_in None = []
trees_in (Some t) = t ∷ []

-- the lines of trees
abbrev pub lines_of_trees : List Tree → List Line
lines_of_trees [] = []
lines_of_trees (t ∷ ts) = tree_lines t ++ lines_of_trees ts

-- their nodes from the place k on
abbrev pub nodes_of_trees : ℕ → List Tree → List Node
nodes_of_trees k [] = []
nodes_of_trees k (t ∷ ts) = listing k t ++ nodes_of_trees (k + size t) ts

-- the places where they begin, the first one last
abbrev pub starts_of_trees : ℕ → List Tree → List ℕ
starts_of_trees k [] = []
starts_of_trees k (t ∷ ts) = starts_of_trees (k + size t) ts ++ (k ∷ [])

-- a split is given the last two of the places
abbrev pub PartsSet : Node → List ℕ → Node → List ℕ → Type 0
PartsSet (split_at j f a b) starts node left = (rest : List ℕ) (upper lower : ℕ) → starts ≡ rest ++ (upper ∷ lower ∷ []) → (node ≡ split_at j f lower upper) × (left ≡ rest)
PartsSet (best_leaf ys) starts node left = (node ≡ best_leaf ys) × (left ≡ starts)
PartsSet (empty_leaf ys) starts node left = (node ≡ empty_leaf ys) × (left ≡ starts)
PartsSet (clash_leaf i j) starts node left = (node ≡ clash_leaf i j) × (left ≡ starts)

-- from the place k on the nodes of these lines have the places of their parts, and these are the places where trees begin
abbrev pub ArePlaced : ℕ → List Line → List Node → List ℕ → Type 0
ArePlaced k lines nodes starts = (ts : List Tree) → lines ≡ lines_of_trees ts → (nodes ≡ nodes_of_trees k ts) × (starts ≡ starts_of_trees k ts)
