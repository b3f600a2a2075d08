-- Certificates as texts: the lines of the claim, those of the tree's nodes in preorder, and the last one.
use Rattle.std.specs.Prelude.{◌≡◌, ℕ, List, [], ◌∷◌, ◌++◌, Option, Some, None}
use Rattle.std.specs.List.{AllByRecursion}
use Rattle.fractions.specs.Rational.{ℚ}
use Rattle.opt_certificate.specs.Certificate.{Tree, split, best, empty, clash, Claim, optimal, infeasible, unbounded}
use Rattle.certificate_lines.specs.Line.{Line, claim_line, point_line, ray_line, split_line, best_line, empty_line, clash_line, end_line, said_optimal, said_infeasible, said_unbounded, IsLine, text_of, weight}

-- a tree or none, a claim, and the objective's value at the claimed point where it is told
pub record Cert : Type 0 where
  pub tree : Option Tree
  pub claim : Claim
  pub value : Option ℚ

-- a value is told of an optimal point alone
abbrev pub claim_lines : Claim → Option ℚ → List Line
claim_lines (optimal a) v = claim_line (said_optimal v) ∷ point_line a ∷ []
claim_lines infeasible v = claim_line said_infeasible ∷ []
claim_lines (unbounded a d) v = claim_line said_unbounded ∷ point_line a ∷ ray_line d ∷ []

-- the nodes in preorder, the lower part before the upper one
abbrev pub tree_lines : Tree → List Line
tree_lines (split j f lower upper) = split_line j f ∷ (tree_lines lower ++ tree_lines upper)
tree_lines (best ys) = best_line ys ∷ []
tree_lines (empty ys) = empty_line ys ∷ []
tree_lines (clash i j) = clash_line i j ∷ []

-- no nodes stand behind the claim that the objective has no end
abbrev pub node_lines : Claim → Option Tree → List Line
node_lines (optimal a) None = []
node_lines (optimal a) (Some t) = tree_lines t
node_lines infeasible None = []
node_lines infeasible (Some t) = tree_lines t
node_lines (unbounded a d) t = []

abbrev pub cert_lines : Cert → List Line
cert_lines c = claim_lines c.claim c.value ++ (node_lines c.claim c.tree ++ (end_line ∷ []))

abbrev pub cert_text : Cert → List ℕ
cert_text c = text_of (cert_lines c)

abbrev pub cert_weight : Cert → ℕ
cert_weight c = weight (cert_lines c)

-- a value with the claim of an optimal point alone; a tree with each claim but that of no end
abbrev pub HasParts : Claim → Option Tree → Option ℚ → Type 0
HasParts (optimal a) tree v = (t : Tree) × (tree ≡ Some t)
HasParts infeasible tree v = ((t : Tree) × (tree ≡ Some t)) × (v ≡ None)
HasParts (unbounded a d) tree v = (tree ≡ None) × (v ≡ None)

-- what has a text of its own: it has its parts, and each of its lines can be spelled
pub record IsCert (c : Cert) : Type 0 where
  pub parts : HasParts c.claim c.tree c.value
  pub lines : AllByRecursion IsLine (cert_lines c)

-- the text is that of a certificate
pub record IsCertText (text : List ℕ) : Type 0 where
  pub cert : Cert
  pub is : IsCert cert
  pub spelled : text ≡ cert_text cert
