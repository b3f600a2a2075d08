-- Parts that are compared.
use Rattle.std.specs.Prelude.{map}
use Rattle.std.proofs.Common.{◌≡◌, ◌↔◌, ℕ, Bool, IsTrue, List, [], ◌∷◌, refl, sym, ap, ap₂, ◌∙◌}
use Rattle.fractions.specs.Rational.{ℚ}
use Rattle.cell_refs.specs.Areas.{Area}
use Rattle.cell_refs.specs.declared.span.Span.{Span}
use Rattle.formula_ast.specs.declared.func.Func.{Func}
use Rattle.formula_ast.specs.declared.expr.Node.{Node}
use Rattle.formula_ast.specs.declared.expr.Node.TheVariants as node
use Rattle.formula_ast.specs.Size.{node_count}
use Rattle.formula_ast.specs.Tree.{Listed, Tree, span_of, trees}
use Rattle.formula_ast.specs.Tree as tree
use Rattle.formula_ast.specs.View.{tree_of}

-- where a part stands
span_is : (at : Span) (n : Node) → span_of (tree_of at n) ≡ at
span_is at (node.Number x) = refl
span_is at (node.Text t) = refl
span_is at (node.Logical b) = refl
span_is at (node.Fault k) = refl
span_is at node.Missing = refl
span_is at (node.Array rows columns items) = refl
span_is at (node.Reference areas) = refl
span_is at (node.Name t) = refl
span_is at (node.Unknown t args) = refl
span_is at (node.Call func args) = refl
span_is at (node.Plus x) = refl
span_is at (node.Minus x) = refl
span_is at (node.Percent x) = refl
span_is at (node.Infix op x y) = refl

-- wherever a part stands, it has as many parts
pub same_count : (at by : Span) (n : Node) → node_count (tree_of at n) ≡ node_count (tree_of by n)
same_count at by (node.Number x) = refl
same_count at by (node.Text t) = refl
same_count at by (node.Logical b) = refl
same_count at by (node.Fault k) = refl
same_count at by node.Missing = refl
same_count at by (node.Array rows columns items) = refl
same_count at by (node.Reference areas) = refl
same_count at by (node.Name t) = refl
same_count at by (node.Unknown t args) = refl
same_count at by (node.Call func args) = refl
same_count at by (node.Plus x) = refl
same_count at by (node.Minus x) = refl
same_count at by (node.Percent x) = refl
same_count at by (node.Infix op x y) = refl

-- trees are equal that stand in one place and have equal nodes
pub in_one_place : (r : Bool) (at by : Span) (n m : Node) (x y : Tree) → tree_of at n ≡ x → tree_of by m ≡ y → at ≡ by → IsTrue r ↔ (tree_of at n ≡ tree_of at m) → IsTrue r ↔ (x ≡ y)
in_one_place r at by n m x y e f p h =
    let q : tree_of at m ≡ y = ap (λ (s : Span). tree_of s m) p ∙ f in
    (λ t. sym e ∙ h.0 t ∙ q, λ g. h.1 (e ∙ g ∙ sym q))

-- and those that stand in two are not
pub in_two_places : (at by : Span) (n m : Node) (x y : Tree) → tree_of at n ≡ x → tree_of by m ≡ y → ¬ (at ≡ by) → ¬ (x ≡ y)
in_two_places at by n m x y e f p g = p (sym (span_is at n) ∙ ap span_of (e ∙ g ∙ sym f) ∙ span_is by m)

-- ---- lists
-- lists of trees are equal where their parts are
pub trees_alike : (xs ys : List Tree) → trees xs ≡ trees ys → xs ≡ ys
trees_alike [] [] e = refl
trees_alike [] (y ∷ ys) e = cc
trees_alike (x ∷ xs) [] e = cc
trees_alike (x ∷ xs) (y ∷ ys) e =
    let first : x ≡ y = cc in
    let others : trees xs ≡ trees ys = cc in
    ap₂ ◌∷◌ first (trees_alike xs ys others)

-- lists of areas where what they list is
pub listed_alike : (xs ys : List Area) → map Listed xs ≡ map Listed ys → xs ≡ ys
listed_alike [] [] e = refl
listed_alike [] (y ∷ ys) e = cc
listed_alike (x ∷ xs) [] e = cc
listed_alike (x ∷ xs) (y ∷ ys) e =
    let first : x ≡ y = cc in
    let others : map Listed xs ≡ map Listed ys = cc in
    ap₂ ◌∷◌ first (listed_alike xs ys others)

-- ---- nodes of one kind
module _ (r : Bool) (at : Span) where
  -- by what the two nodes are
  pub by_nodes : {n m : Node} (k l : Node) → n ≡ k → m ≡ l → IsTrue r ↔ (tree_of at k ≡ tree_of at l) → IsTrue r ↔ (tree_of at n ≡ tree_of at m)
  by_nodes k l p q h = (λ t. ap (tree_of at) p ∙ h.0 t ∙ ap (tree_of at) (sym q), λ e. h.1 (ap (tree_of at) (sym p) ∙ e ∙ ap (tree_of at) q))

  pub numbers : (x y : ℚ) → IsTrue r ↔ (x ≡ y) → IsTrue r ↔ (tree.Number at x ≡ tree.Number at y)
  numbers x y h = (λ t. ap (tree.Number at) (h.0 t), λ e. let q : x ≡ y = cc in h.1 q)

  pub arrays : (a b : ℕ × ℕ) (xs ys : List Tree) → a ≡ b → IsTrue r ↔ (xs ≡ ys) → IsTrue r ↔ (tree.Array at a.0 a.1 (trees xs) ≡ tree.Array at b.0 b.1 (trees ys))
  arrays a b xs ys p h = (λ t. (λ i. tree.Array at ((p i).0) ((p i).1) (trees (h.0 t i))), λ e. let q : trees xs ≡ trees ys = cc in h.1 (trees_alike xs ys q))

  pub references : (xs ys : List Area) → IsTrue r ↔ (xs ≡ ys) → IsTrue r ↔ (tree.Reference at (map Listed xs) ≡ tree.Reference at (map Listed ys))
  references xs ys h = (λ t. ap (λ areas. tree.Reference at (map Listed areas)) (h.0 t), λ e. let q : map Listed xs ≡ map Listed ys = cc in h.1 (listed_alike xs ys q))

  pub unknowns : (s t : List ℕ) (xs ys : List Tree) → s ≡ t → IsTrue r ↔ (xs ≡ ys) → IsTrue r ↔ (tree.Unknown at s (trees xs) ≡ tree.Unknown at t (trees ys))
  unknowns s t xs ys p h = (λ w. (λ i. tree.Unknown at (p i) (trees (h.0 w i))), λ e. let q : trees xs ≡ trees ys = cc in h.1 (trees_alike xs ys q))

  pub calls : (f g : Func) (xs ys : List Tree) → f ≡ g → IsTrue r ↔ (xs ≡ ys) → IsTrue r ↔ (tree.Call at f (trees xs) ≡ tree.Call at g (trees ys))
  calls f g xs ys p h = (λ w. (λ i. tree.Call at (p i) (trees (h.0 w i))), λ e. let q : trees xs ≡ trees ys = cc in h.1 (trees_alike xs ys q))

-- of equal lists
pub of_lists : (r : Bool) {xs ys us vs : List Tree} → us ≡ xs → vs ≡ ys → IsTrue r ↔ (us ≡ vs) → IsTrue r ↔ (xs ≡ ys)
of_lists r p q h = (λ t. sym p ∙ h.0 t ∙ q, λ e. h.1 (p ∙ e ∙ sym q))
