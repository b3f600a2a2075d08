-- Places of the parts of trees, from the last node to the first.
use Rattle.std.proofs.Common.{◌≡◌, ◌∙◌, ℕ, suc, ◌+◌, ◌^◌, ◌<◌, ◌≤◌, List, [], ◌∷◌, ◌++◌, length, take, drop, set, map, get_or, ℤ, Option, Some, None, refl, sym, ap, ap₂, subst, append_assoc, append-nil, arith, drop-cons}
use Rattle.std.proofs.lemmas.List.{length-set, get_or-take, take-set, drop-set, take-take}
use Rattle.std.specs.List.{AllByRecursion}
use Rattle.std.proofs.lemmas.List.Elements.{All-from_recursion}
use Rattle.opt_certificate.specs.Certificate.{Tree, split, best, empty, clash}
use Rattle.opt_certificate.specs.Nodes.{Node, split_at, best_leaf, empty_leaf, clash_leaf, listing, size, HasNarrowFloor, IsListed}
use Rattle.opt_certificate.specs.Trees.{node_of, IsTree}
use Rattle.opt_certificate.specs.declared.tree.TreeNode.{TreeNode}
use Rattle.certificate_lines.specs.Line.{Line, split_line, IsLine}
use Rattle.certificate_lines.specs.Cert.{tree_lines}
use Rattle.certificate_lines.proofs.Cuts.{heads, tails, none_there}
use Rattle.certificate_texts.specs.Nodes.{node_line}
use Rattle.certificate_texts.proofs.Writing.{listed-tree, map-append}
use Rattle.certificate_texts.specs.Forests.{ArePlaced, PartsSet, lines_of_trees, nodes_of_trees, starts_of_trees, trees_in}

-- ---- one node
no_tree : (t : Tree) (ls : List Line) → [] ≡ tree_lines t ++ ls → ⊥
no_tree (split j f a b) ls e = none_there _ _ (sym e)
no_tree (best ys) ls e = none_there _ _ (sym e)
no_tree (empty ys) ls e = none_there _ _ (sym e)
no_tree (clash i j) ls e = none_there _ _ (sym e)

pub placed_none : (k : ℕ) → ArePlaced k [] [] []
placed_none k [] e = (refl, refl)
placed_none k (t ∷ ts) e = absurd (no_tree t (lines_of_trees ts) e)

-- a split's node, and those of its parts and of what follows
abbrev nodes_at : ℕ → ℤ → Tree → Tree → List Tree → ℕ → ℕ → ℕ → List Node
nodes_at j f a b ts p q r = split_at j f p q ∷ (listing p a ++ (listing q b ++ nodes_of_trees r ts))

split_nodes : (k j : ℕ) (f : ℤ) (a b : Tree) (ts : List Tree) → nodes_at j f a b ts (suc k) (suc k + size a) ((suc k + size a) + size b) ≡ nodes_of_trees k (split j f a b ∷ ts)
split_nodes k j f a b ts =
    let p : suc k ≡ k + 1 = omega arith in
    let q : suc k + size a ≡ k + (1 + size a) = omega arith in
    let r : (suc k + size a) + size b ≡ k + (1 + (size a + size b)) = omega arith in
    ap (λ x. nodes_at j f a b ts x (suc k + size a) ((suc k + size a) + size b)) p
    ∙ ap (λ x. nodes_at j f a b ts (k + 1) x ((suc k + size a) + size b)) q
    ∙ ap (λ x. nodes_at j f a b ts (k + 1) (k + (1 + size a)) x) r
    ∙ ap (λ x. split_at j f (k + 1) (k + (1 + size a)) ∷ x)
    (sym (append_assoc (listing (k + 1) a) (listing (k + (1 + size a)) b) (nodes_of_trees (k + (1 + (size a + size b))) ts)))

split_starts : (k j : ℕ) (f : ℤ) (a b : Tree) (ts : List Tree) → starts_of_trees ((suc k + size a) + size b) ts ++ (k ∷ []) ≡ starts_of_trees k (split j f a b ∷ ts)
split_starts k j f a b ts =
    let r : (suc k + size a) + size b ≡ k + (1 + (size a + size b)) = omega arith in
    ap (λ x. starts_of_trees x ts ++ (k ∷ [])) r

split_placed : (k i : ℕ) (g : ℤ) (x y j : ℕ) (f : ℤ) (a b : Tree) (ts : List Tree) (made : Node) (lines : List Line) (nodes : List Node) (starts left : List ℕ)
    → ArePlaced (suc k) lines nodes starts → PartsSet (split_at i g x y) starts made left
    → split_line i g ∷ lines ≡ split_line j f ∷ ((tree_lines a ++ tree_lines b) ++ lines_of_trees ts)
    → (made ∷ nodes ≡ nodes_of_trees k (split j f a b ∷ ts)) × (left ++ (k ∷ []) ≡ starts_of_trees k (split j f a b ∷ ts))
split_placed k i g x y j f a b ts made lines nodes starts left h p e =
    let same = heads _ _ _ _ e in
    let decision : i ≡ j = cc same in
    let floor : g ≡ f = cc same in
    let r = h (a ∷ b ∷ ts) (tails _ _ _ _ e ∙ append_assoc (tree_lines a) (tree_lines b) (lines_of_trees ts)) in
    let s = p (starts_of_trees ((suc k + size a) + size b) ts) (suc k + size a) (suc k) (r.1 ∙ append_assoc (starts_of_trees ((suc k + size a) + size b) ts) ((suc k + size a) ∷ []) (suc k ∷ [])) in (
      ap₂ (λ m ns. m ∷ ns) (s.0 ∙ ap₂ (λ u v. split_at u v (suc k) (suc k + size a)) decision floor) r.0 ∙ split_nodes k j f a b ts,
      ap (λ l. l ++ (k ∷ [])) s.1 ∙ split_starts k j f a b ts,
    )

leaf_placed : (k : ℕ) (leaf made : Node) (t : Tree) (ts : List Tree) (lines : List Line) (nodes : List Node) (starts left : List ℕ) → ArePlaced (suc k) lines nodes starts
    → made ≡ leaf → left ≡ starts → lines ≡ lines_of_trees ts → listing k t ≡ leaf ∷ [] → size t ≡ 1
    → (made ∷ nodes ≡ nodes_of_trees k (t ∷ ts)) × (left ++ (k ∷ []) ≡ starts_of_trees k (t ∷ ts))
leaf_placed k leaf made t ts lines nodes starts left h m l e n s =
    let r = h ts e in
    let next : suc k ≡ k + size t = omega (arith, s) in (
      ap₂ (λ a ns. a ∷ ns) m (r.0 ∙ ap (λ x. nodes_of_trees x ts) next) ∙ ap (λ x. x ++ nodes_of_trees (k + size t) ts) (sym n),
      ap (λ x. x ++ (k ∷ [])) (l ∙ r.1 ∙ ap (λ x. starts_of_trees x ts) next),
    )

pub placed_next : (k : ℕ) (node made : Node) (lines : List Line) (nodes : List Node) (starts left : List ℕ) → ArePlaced (suc k) lines nodes starts → PartsSet node starts made left
    → ArePlaced k (node_line node ∷ lines) (made ∷ nodes) (left ++ (k ∷ []))
placed_next k node made lines nodes starts left h p [] e = none_there _ _ e
placed_next k (split_at i g x y) made lines nodes starts left h p (split j f a b ∷ ts) e = split_placed k i g x y j f a b ts made lines nodes starts left h p e
placed_next k (split_at i g x y) made lines nodes starts left h p (best ys ∷ ts) e = let q = heads _ _ _ _ e in absurd (cc q)
placed_next k (split_at i g x y) made lines nodes starts left h p (empty ys ∷ ts) e = let q = heads _ _ _ _ e in absurd (cc q)
placed_next k (split_at i g x y) made lines nodes starts left h p (clash a b ∷ ts) e = let q = heads _ _ _ _ e in absurd (cc q)
placed_next k (best_leaf zs) made lines nodes starts left h p (split j f a b ∷ ts) e = let q = heads _ _ _ _ e in absurd (cc q)
placed_next k (best_leaf zs) made lines nodes starts left h p (best ys ∷ ts) e =
    let q = heads _ _ _ _ e in
    let same : zs ≡ ys = cc q in
    leaf_placed k (best_leaf ys) made (best ys) ts lines nodes starts left h (p.0 ∙ ap best_leaf same) p.1 (tails _ _ _ _ e) refl refl
placed_next k (best_leaf zs) made lines nodes starts left h p (empty ys ∷ ts) e = let q = heads _ _ _ _ e in absurd (cc q)
placed_next k (best_leaf zs) made lines nodes starts left h p (clash a b ∷ ts) e = let q = heads _ _ _ _ e in absurd (cc q)
placed_next k (empty_leaf zs) made lines nodes starts left h p (split j f a b ∷ ts) e = let q = heads _ _ _ _ e in absurd (cc q)
placed_next k (empty_leaf zs) made lines nodes starts left h p (best ys ∷ ts) e = let q = heads _ _ _ _ e in absurd (cc q)
placed_next k (empty_leaf zs) made lines nodes starts left h p (empty ys ∷ ts) e =
    let q = heads _ _ _ _ e in
    let same : zs ≡ ys = cc q in
    leaf_placed k (empty_leaf ys) made (empty ys) ts lines nodes starts left h (p.0 ∙ ap empty_leaf same) p.1 (tails _ _ _ _ e) refl refl
placed_next k (empty_leaf zs) made lines nodes starts left h p (clash a b ∷ ts) e = let q = heads _ _ _ _ e in absurd (cc q)
placed_next k (clash_leaf i j) made lines nodes starts left h p (split d f a b ∷ ts) e = let q = heads _ _ _ _ e in absurd (cc q)
placed_next k (clash_leaf i j) made lines nodes starts left h p (best ys ∷ ts) e = let q = heads _ _ _ _ e in absurd (cc q)
placed_next k (clash_leaf i j) made lines nodes starts left h p (empty ys ∷ ts) e = let q = heads _ _ _ _ e in absurd (cc q)
placed_next k (clash_leaf i j) made lines nodes starts left h p (clash a b ∷ ts) e =
    let q = heads _ _ _ _ e in
    let one : i ≡ a = cc q in
    let other : j ≡ b = cc q in
    leaf_placed k (clash_leaf a b) made (clash a b) ts lines nodes starts left h (p.0 ∙ ap₂ clash_leaf one other) p.1 (tails _ _ _ _ e) refl refl

-- ---- nodes whose places are set from the place on
pub record PlacedFrom (old now : List TreeNode) (place : ℕ) (starts : List ℕ) : Type 0 where
  pub same : length now ≡ length old
  pub within : place ≤ length old
  pub before : take place now ≡ take place old
  pub placed : ArePlaced place (map node_line (map node_of (drop place old))) (map node_of (drop place now)) starts

drop_whole : (xs : List TreeNode) → drop (length xs) xs ≡ []
drop_whole [] = refl
drop_whole (x ∷ xs) = drop_whole xs

pub placed_start : (old : List TreeNode) → PlacedFrom old old (length old) []
placed_start old = record {
  same = refl;
  within = omega arith;
  before = refl;
  placed = subst (λ xs. ArePlaced (length old) (map node_line (map node_of xs)) (map node_of xs) []) (sym (drop_whole old)) (placed_none (length old));
}

pub placed_step : (old now : List TreeNode) (p q : ℕ) (node made : TreeNode) (starts left : List ℕ) → PlacedFrom old now p starts → suc q ≡ p → node ≡ get_or now q node
    → PartsSet (node_of node) starts (node_of made) left → PlacedFrom old (set now q made) q (left ++ (q ∷ []))
placed_step old now p q node made starts left h e r s =
    let within = h.within in
    let same = h.same in
    let a : q < length old = omega arith in
    let b : q < length now = omega arith in
    let d : q < p = omega arith in
    let one : q + 1 ≡ p = omega arith in
    let was : node ≡ get_or old q node = r ∙ sym (get_or-take p now q node d) ∙ ap (λ xs. get_or xs q node) h.before ∙ get_or-take p old q node d in
    let first : drop q old ≡ node ∷ drop p old = drop-cons old q node a ∙ ap₂ (λ x k. x ∷ drop k old) (sym was) e in
    let second : drop q (set now q made) ≡ made ∷ drop p now = drop-set now q made b ∙ ap (λ k. made ∷ drop k now) one in
    let fewer : q ≤ p = omega arith in
    let less : take q now ≡ take q old = sym (take-take q p now fewer) ∙ ap (take q) h.before ∙ take-take q p old fewer in
    record {
      same = length-set now q made ∙ same;
      within = omega arith;
      before = take-set now q made ∙ less;
      placed = subst (λ xs. ArePlaced q (map node_line (map node_of xs)) (map node_of (drop q (set now q made))) (left ++ (q ∷ []))) (sym first)
          (subst (λ xs. ArePlaced q (map node_line (map node_of (node ∷ drop p old))) (map node_of xs) (left ++ (q ∷ []))) (sym second)
          (placed_next q (node_of node) (node_of made) (map node_line (map node_of (drop p old))) (map node_of (drop p now)) starts left
          (subst (λ k. ArePlaced k (map node_line (map node_of (drop p old))) (map node_of (drop p now)) starts) (sym e) h.placed) s));
    }

-- ---- the tree
floors-right : (ns : List Node) → AllByRecursion IsLine (map node_line ns) → AllByRecursion HasNarrowFloor ns
floors-right [] h = tt
floors-right (split_at j f x y ∷ ns) h = ((h.0.floor, h.0.above), floors-right ns h.1)
floors-right (best_leaf ys ∷ ns) h = (tt, floors-right ns h.1)
floors-right (empty_leaf ys ∷ ns) h = (tt, floors-right ns h.1)
floors-right (clash_leaf i j ∷ ns) h = (tt, floors-right ns h.1)

pub listed_tree : (nodes : List Node) (t : Option Tree) → nodes ≡ nodes_of_trees 0 (trees_in t) → IsListed nodes t
listed_tree nodes None e = e
listed_tree nodes (Some t) e = e ∙ append-nil (listing 0 t)

lines-nodes : (k : ℕ) (ts : List Tree) → map node_line (nodes_of_trees k ts) ≡ lines_of_trees ts
lines-nodes k [] = refl
lines-nodes k (t ∷ ts) = map-append (listing k t) (nodes_of_trees (k + size t) ts) ∙ ap₂ (λ x y. x ++ y) (listed-tree k t) (lines-nodes (k + size t) ts)

-- nodes with the places of their parts, and with the lines of a tree's, are a tree's
pub tree_made : (now : List Node) (t : Option Tree) → length now ≤ 2 ^ 32 → AllByRecursion IsLine (lines_of_trees (trees_in t)) → now ≡ nodes_of_trees 0 (trees_in t) → IsTree now
tree_made now t l h q = record {
  tree = t;
  listed = listed_tree now t q;
  floors = All-from_recursion HasNarrowFloor now (floors-right now (subst (AllByRecursion IsLine) (sym (ap (map node_line) q ∙ lines-nodes 0 (trees_in t))) h));
  places = l;
}
