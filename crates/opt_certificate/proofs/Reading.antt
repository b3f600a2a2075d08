-- Reading the node at a place of a walk.
use Rattle.std.proofs.Common.{◌≡◌, ℕ, zero, suc, ◌+◌, ◌<◌, ◌≤◌, sym, ap, ◌∙◌, List, [], ◌∷◌, ◌++◌, length, get_or, map, take, Some, subst, arith, length-append}
use Rattle.std.specs.Prelude.{All, slice_get}
use Rattle.std.proofs.lemmas.List.{get_or-map, length-map, take_all}
use Rattle.std.proofs.lemmas.List.Elements.{All-more}
use Rattle.linear_models.specs.Box.{Box}
use Rattle.linear_models.specs.Model.{Model}
use Rattle.opt_certificate.specs.Certificate.{Tree}
use Rattle.opt_certificate.specs.Nodes.{Node, HasNarrowFloor, listing, boxed}
use Rattle.opt_certificate.specs.Trees.{node_of}
use Rattle.opt_certificate.specs.declared.tree.TreeNode.{TreeNode}
use Rattle.opt_certificate.proofs.Walks.{Walk, Top, top, length-listing, length-boxed}

mapped_read : (nodes : List TreeNode) (k : ℕ) (x : TreeNode) → k < length nodes → x ≡ get_or nodes k x → node_of x ≡ get_or (map node_of nodes) k (node_of x)
mapped_read nodes k x h e = ap node_of e ∙ sym (get_or-map node_of nodes k x (node_of x) h)

mapped_within : (nodes : List TreeNode) (k : ℕ) → k < length nodes → k < length (map node_of nodes)
mapped_within nodes k h = omega (arith, length-map nodes node_of)

pub at_node : (n : Model) (nodes : List TreeNode) (all : List (Box × Node)) (k : ℕ) (boxes : List Box) (x : TreeNode) → k < length nodes → x ≡ get_or nodes k x
    → Walk n (map node_of nodes) all k boxes → Top n (map node_of nodes) all k boxes (node_of x)
at_node n nodes all k boxes x h e w = top n (map node_of nodes) all k boxes (node_of x) (mapped_within nodes k h) (mapped_read nodes k x h e) w

pub floor_at : (nodes : List TreeNode) (k : ℕ) (x : TreeNode) → k < length nodes → x ≡ get_or nodes k x → All HasNarrowFloor (map node_of nodes) → HasNarrowFloor (node_of x)
floor_at nodes k x h e a = subst HasNarrowFloor (sym (mapped_read nodes k x h e)) (a k (node_of x) (mapped_within nodes k h))

pub some_wait : (boxes rest : List Box) (b : Box) → boxes ≡ rest ++ b ∷ [] → 0 < length boxes
some_wait boxes rest b e = omega (arith, ap length e, length-append rest (b ∷ []))

-- the element at a place
pub record Here {X : Type 0} (xs : List X) (k : ℕ) (x : X) : Type 0 where
  pub within : k < length xs
  pub is : get_or xs k x ≡ x

pub element_is : {X : Type 0} (xs : List X) (k : ℕ) (x : X) → slice_get xs k ≡ Some x → Here xs k x
element_is [] k x e = cc
element_is (a ∷ xs) zero x e = record { within = omega arith; is = cc }
element_is (a ∷ xs) (suc k) x e = let h = element_is xs k x e in record { within = omega (arith, h.within); is = h.is }

pub all_at : {X : Type 0} (P : X → Type 0) (xs : List X) (k : ℕ) (x : X) → All P xs → slice_get xs k ≡ Some x → P x
all_at P xs k x a e = let h = element_is xs k x e in subst P h.is (a k x h.within)

pub one_more : {X : Type 0} (P : X → Type 0) (xs : List X) (k : ℕ) (x : X) → All P (take k xs) → slice_get xs k ≡ Some x → P x → All P (take (k + 1) xs)
one_more P xs k x a e p = let h = element_is xs k x e in All-more P xs k x h.within a (subst P (sym h.is) p)

-- at the end all has been read
pub all_read : (P : Box × Node → Type 0) (nodes : List TreeNode) (box : Box) (t : Tree) (k : ℕ) → map node_of nodes ≡ listing 0 t → length nodes ≤ k → All P (take k (boxed box t)) → All P (boxed box t)
all_read P nodes box t k e h a =
    subst (λ (xs : List (Box × Node)). All P xs) (take_all k (boxed box t) (omega (arith, length-boxed box t, length-listing 0 t, ap length e, length-map nodes node_of))) a
