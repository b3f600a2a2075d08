-- The lines of nodes in preorder, as the code keeps them.
use Rattle.std.specs.Prelude.{ℕ, List, [], ◌∷◌, ◌++◌, map, Option}
use Rattle.fractions.specs.Rational.{ℚ}
use Rattle.opt_certificate.specs.Certificate.{Claim, optimal, infeasible, unbounded}
use Rattle.opt_certificate.specs.Nodes.{Node, split_at, best_leaf, empty_leaf, clash_leaf}
use Rattle.certificate_lines.specs.Line.{Line, split_line, best_line, empty_line, clash_line, end_line, text_of}
use Rattle.certificate_lines.specs.Cert.{claim_lines}

-- a node's line, without the places of its parts
abbrev pub node_line : Node → Line
node_line (split_at j f lower upper) = split_line j f
node_line (best_leaf ys) = best_line ys
node_line (empty_leaf ys) = empty_line ys
node_line (clash_leaf i j) = clash_line i j

-- the lines of all nodes, where the claim has a tree
abbrev pub listed_lines : Claim → List Node → List Line
listed_lines (optimal a) nodes = map node_line nodes
listed_lines infeasible nodes = map node_line nodes
listed_lines (unbounded a d) nodes = []

-- the text of a claim, a value and a tree's nodes
abbrev pub listed_text : Claim → Option ℚ → List Node → List ℕ
listed_text c v nodes = text_of (claim_lines c v ++ (listed_lines c nodes ++ (end_line ∷ [])))
