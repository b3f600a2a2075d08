-- Places of the parts of trees, from the last node to the first.
use Rattle.std.proofs.Common.{◌≡◌, ◌∙◌, ℕ, suc, ◌+◌, ◌^◌, ◌<◌, ◌≤◌, List, [], ◌∷◌, ◌++◌, length, take, drop, set, map, get_or, ℤ, Some, refl, sym, ap, ap₂, subst, append_assoc, append-nil, arith, drop-cons, pos, ◌+ℤ◌}
use Rattle.std.proofs.lemmas.List.{length-set, get_or-take, take-set, drop-set, take-take, map-append, length-map, take-append-le, take_all}
use Rattle.std.specs.List.{AllByRecursion}
use Rattle.std.specs.Prelude.{All}
use Rattle.std.proofs.lemmas.List.Elements.{All-from_recursion, recursion_from_All}
use Rattle.frac128.specs.Narrow.{IsNarrowWhole}
use Rattle.opt_certificate.specs.Certificate.{Tree, split, best, empty, clash}
use Rattle.opt_certificate.specs.Nodes.{Node, split_at, best_leaf, empty_leaf, clash_leaf, listing, size, HasNarrowFloor}
use Rattle.opt_certificate.specs.Trees.{node_of, IsTree}
use Rattle.opt_certificate.specs.declared.tree.TreeNode.{TreeNode}
use Rattle.search_trees.specs.Preorders.{ArePlaced, PartsSet, bare, nodes_of_trees, preorder, preorders, starts_of_trees}

-- ---- lists
none_there : (x : Node) (xs : List Node) → x ∷ xs ≡ [] → ⊥
none_there x xs e = cc

heads : (x y : Node) (xs ys : List Node) → x ∷ xs ≡ y ∷ ys → x ≡ y
heads x y xs ys e = cc

tails : (x y : Node) (xs ys : List Node) → x ∷ xs ≡ y ∷ ys → xs ≡ ys
tails x y xs ys e = cc

-- ---- one node
no_tree : (t : Tree) (ls : List Node) → [] ≡ preorder t ++ ls → ⊥
no_tree (split j f a b) ls e = none_there _ _ (sym e)
no_tree (best ys) ls e = none_there _ _ (sym e)
no_tree (empty ys) ls e = none_there _ _ (sym e)
no_tree (clash i j) ls e = none_there _ _ (sym e)

pub placed_none : (k : ℕ) → ArePlaced k [] [] []
placed_none k [] e = (refl, refl)
placed_none k (t ∷ ts) e = absurd (no_tree t (preorders ts) e)

-- a split's node, and those of its parts and of what follows
abbrev nodes_at : ℕ → ℤ → Tree → Tree → List Tree → ℕ → ℕ → ℕ → List Node
nodes_at j f a b ts p q r = split_at j f p q ∷ (listing p a ++ (listing q b ++ nodes_of_trees r ts))

split_nodes : (k j : ℕ) (f : ℤ) (a b : Tree) (ts : List Tree) → nodes_at j f a b ts (suc k) (suc k + size a) ((suc k + size a) + size b) ≡ nodes_of_trees k (split j f a b ∷ ts)
split_nodes k j f a b ts =
    let p : suc k ≡ k + 1 = omega arith in
    let q : suc k + size a ≡ k + (1 + size a) = omega arith in
    let r : (suc k + size a) + size b ≡ k + (1 + (size a + size b)) = omega arith in
    ap (λ x. nodes_at j f a b ts x (suc k + size a) ((suc k + size a) + size b)) p
    ∙ ap (λ x. nodes_at j f a b ts (k + 1) x ((suc k + size a) + size b)) q
    ∙ ap (λ x. nodes_at j f a b ts (k + 1) (k + (1 + size a)) x) r
    ∙ ap (λ x. split_at j f (k + 1) (k + (1 + size a)) ∷ x)
    (sym (append_assoc (listing (k + 1) a) (listing (k + (1 + size a)) b) (nodes_of_trees (k + (1 + (size a + size b))) ts)))

split_starts : (k j : ℕ) (f : ℤ) (a b : Tree) (ts : List Tree) → starts_of_trees ((suc k + size a) + size b) ts ++ (k ∷ []) ≡ starts_of_trees k (split j f a b ∷ ts)
split_starts k j f a b ts =
    let r : (suc k + size a) + size b ≡ k + (1 + (size a + size b)) = omega arith in
    ap (λ x. starts_of_trees x ts ++ (k ∷ [])) r

split_placed : (k i : ℕ) (g : ℤ) (x y j : ℕ) (f : ℤ) (a b : Tree) (ts : List Tree) (made : Node) (old nodes : List Node) (starts left : List ℕ)
    → ArePlaced (suc k) old nodes starts → PartsSet (split_at i g x y) starts made left
    → split_at i g 0 0 ∷ map bare old ≡ split_at j f 0 0 ∷ ((preorder a ++ preorder b) ++ preorders ts)
    → (made ∷ nodes ≡ nodes_of_trees k (split j f a b ∷ ts)) × (left ++ (k ∷ []) ≡ starts_of_trees k (split j f a b ∷ ts))
split_placed k i g x y j f a b ts made old nodes starts left h p e =
    let same = heads _ _ _ _ e in
    let decision : i ≡ j = cc same in
    let floor : g ≡ f = cc same in
    let r = h (a ∷ b ∷ ts) (tails _ _ _ _ e ∙ append_assoc (preorder a) (preorder b) (preorders ts)) in
    let s = p (starts_of_trees ((suc k + size a) + size b) ts) (suc k + size a) (suc k) (r.1 ∙ append_assoc (starts_of_trees ((suc k + size a) + size b) ts) ((suc k + size a) ∷ []) (suc k ∷ [])) in (
      ap₂ (λ m ns. m ∷ ns) (s.0 ∙ ap₂ (λ u v. split_at u v (suc k) (suc k + size a)) decision floor) r.0 ∙ split_nodes k j f a b ts,
      ap (λ l. l ++ (k ∷ [])) s.1 ∙ split_starts k j f a b ts,
    )

leaf_placed : (k : ℕ) (leaf made : Node) (t : Tree) (ts : List Tree) (old nodes : List Node) (starts left : List ℕ) → ArePlaced (suc k) old nodes starts
    → made ≡ leaf → left ≡ starts → map bare old ≡ preorders ts → listing k t ≡ leaf ∷ [] → size t ≡ 1
    → (made ∷ nodes ≡ nodes_of_trees k (t ∷ ts)) × (left ++ (k ∷ []) ≡ starts_of_trees k (t ∷ ts))
leaf_placed k leaf made t ts old nodes starts left h m l e n s =
    let r = h ts e in
    let next : suc k ≡ k + size t = omega (arith, s) in (
      ap₂ (λ a ns. a ∷ ns) m (r.0 ∙ ap (λ x. nodes_of_trees x ts) next) ∙ ap (λ x. x ++ nodes_of_trees (k + size t) ts) (sym n),
      ap (λ x. x ++ (k ∷ [])) (l ∙ r.1 ∙ ap (λ x. starts_of_trees x ts) next),
    )

pub placed_next : (k : ℕ) (node made : Node) (old nodes : List Node) (starts left : List ℕ) → ArePlaced (suc k) old nodes starts → PartsSet node starts made left
    → ArePlaced k (node ∷ old) (made ∷ nodes) (left ++ (k ∷ []))
placed_next k node made old nodes starts left h p [] e = absurd (none_there _ _ e)
placed_next k (split_at i g x y) made old nodes starts left h p (split j f a b ∷ ts) e = split_placed k i g x y j f a b ts made old nodes starts left h p e
placed_next k (split_at i g x y) made old nodes starts left h p (best ys ∷ ts) e = let q = heads _ _ _ _ e in absurd (cc q)
placed_next k (split_at i g x y) made old nodes starts left h p (empty ys ∷ ts) e = let q = heads _ _ _ _ e in absurd (cc q)
placed_next k (split_at i g x y) made old nodes starts left h p (clash u v ∷ ts) e = let q = heads _ _ _ _ e in absurd (cc q)
placed_next k (best_leaf zs) made old nodes starts left h p (split j f a b ∷ ts) e = let q = heads _ _ _ _ e in absurd (cc q)
placed_next k (best_leaf zs) made old nodes starts left h p (best ys ∷ ts) e =
    let q = heads _ _ _ _ e in
    let same : zs ≡ ys = cc q in
    leaf_placed k (best_leaf ys) made (best ys) ts old nodes starts left h (p.0 ∙ ap best_leaf same) p.1 (tails _ _ _ _ e) refl refl
placed_next k (best_leaf zs) made old nodes starts left h p (empty ys ∷ ts) e = let q = heads _ _ _ _ e in absurd (cc q)
placed_next k (best_leaf zs) made old nodes starts left h p (clash u v ∷ ts) e = let q = heads _ _ _ _ e in absurd (cc q)
placed_next k (empty_leaf zs) made old nodes starts left h p (split j f a b ∷ ts) e = let q = heads _ _ _ _ e in absurd (cc q)
placed_next k (empty_leaf zs) made old nodes starts left h p (best ys ∷ ts) e = let q = heads _ _ _ _ e in absurd (cc q)
placed_next k (empty_leaf zs) made old nodes starts left h p (empty ys ∷ ts) e =
    let q = heads _ _ _ _ e in
    let same : zs ≡ ys = cc q in
    leaf_placed k (empty_leaf ys) made (empty ys) ts old nodes starts left h (p.0 ∙ ap empty_leaf same) p.1 (tails _ _ _ _ e) refl refl
placed_next k (empty_leaf zs) made old nodes starts left h p (clash u v ∷ ts) e = let q = heads _ _ _ _ e in absurd (cc q)
placed_next k (clash_leaf i l) made old nodes starts left h p (split j f a b ∷ ts) e = let q = heads _ _ _ _ e in absurd (cc q)
placed_next k (clash_leaf i l) made old nodes starts left h p (best ys ∷ ts) e = let q = heads _ _ _ _ e in absurd (cc q)
placed_next k (clash_leaf i l) made old nodes starts left h p (empty ys ∷ ts) e = let q = heads _ _ _ _ e in absurd (cc q)
placed_next k (clash_leaf i l) made old nodes starts left h p (clash u v ∷ ts) e =
    let q = heads _ _ _ _ e in
    let same : clash_leaf i l ≡ clash_leaf u v = q in
    leaf_placed k (clash_leaf u v) made (clash u v) ts old nodes starts left h (p.0 ∙ same) p.1 (tails _ _ _ _ e) refl refl

-- ---- nodes whose places are set from the place on
pub record PlacedFrom (old now : List TreeNode) (place : ℕ) (starts : List ℕ) : Type 0 where
  pub same : length now ≡ length old
  pub within : place ≤ length old
  pub before : take place now ≡ take place old
  pub placed : ArePlaced place (map node_of (drop place old)) (map node_of (drop place now)) starts

drop_whole : (xs : List TreeNode) → drop (length xs) xs ≡ []
drop_whole [] = refl
drop_whole (x ∷ xs) = drop_whole xs

pub placed_start : (old : List TreeNode) → PlacedFrom old old (length old) []
placed_start old = record {
  same = refl;
  within = omega arith;
  before = refl;
  placed = subst (λ xs. ArePlaced (length old) (map node_of xs) (map node_of xs) []) (sym (drop_whole old)) (placed_none (length old));
}

pub placed_step : (old now : List TreeNode) (p q : ℕ) (node made : TreeNode) (starts left : List ℕ) → PlacedFrom old now p starts → suc q ≡ p → node ≡ get_or now q node
    → PartsSet (node_of node) starts (node_of made) left → PlacedFrom old (set now q made) q (left ++ (q ∷ []))
placed_step old now p q node made starts left h e r s =
    let within = h.within in
    let same = h.same in
    let a : q < length old = omega arith in
    let b : q < length now = omega arith in
    let d : q < p = omega arith in
    let one : q + 1 ≡ p = omega arith in
    let was : node ≡ get_or old q node = r ∙ sym (get_or-take p now q node d) ∙ ap (λ xs. get_or xs q node) h.before ∙ get_or-take p old q node d in
    let first : drop q old ≡ node ∷ drop p old = drop-cons old q node a ∙ ap₂ (λ x k. x ∷ drop k old) (sym was) e in
    let second : drop q (set now q made) ≡ made ∷ drop p now = drop-set now q made b ∙ ap (λ k. made ∷ drop k now) one in
    let fewer : q ≤ p = omega arith in
    let less : take q now ≡ take q old = sym (take-take q p now fewer) ∙ ap (take q) h.before ∙ take-take q p old fewer in
    record {
      same = length-set now q made ∙ same;
      within = omega arith;
      before = take-set now q made ∙ less;
      placed = subst (λ xs. ArePlaced q (map node_of xs) (map node_of (drop q (set now q made))) (left ++ (q ∷ []))) (sym first)
          (subst (λ xs. ArePlaced q (map node_of (node ∷ drop p old)) (map node_of xs) (left ++ (q ∷ []))) (sym second)
          (placed_next q (node_of node) (node_of made) (map node_of (drop p old)) (map node_of (drop p now)) starts left
          (subst (λ k. ArePlaced k (map node_of (drop p old)) (map node_of (drop p now)) starts) (sym e) h.placed) s));
    }

-- ---- the tree
pub placed_tree : (nodes : List Node) (t : Tree) → nodes ≡ nodes_of_trees 0 (t ∷ []) → nodes ≡ listing 0 t
placed_tree nodes t e = e ∙ append-nil (listing 0 t)

pub one_tree : (nodes : List Node) (t : Tree) → map bare nodes ≡ preorder t → map bare nodes ≡ preorders (t ∷ [])
one_tree nodes t e = e ∙ sym (append-nil (preorder t))

-- floors are as they were without places
floor_bare : (x y : Node) → bare x ≡ bare y → HasNarrowFloor x → HasNarrowFloor y
floor_bare (split_at i g a b) (split_at j f c d) e h = let q : g ≡ f = cc e in subst (λ f. IsNarrowWhole f × IsNarrowWhole (f +ℤ pos 1)) q h
floor_bare (best_leaf ys) (split_at j f c d) e h = absurd (cc e)
floor_bare (empty_leaf ys) (split_at j f c d) e h = absurd (cc e)
floor_bare (clash_leaf i k) (split_at j f c d) e h = absurd (cc e)
floor_bare x (best_leaf ys) e h = tt
floor_bare x (empty_leaf ys) e h = tt
floor_bare x (clash_leaf i j) e h = tt

floors_bare : (xs ys : List Node) → map bare xs ≡ map bare ys → AllByRecursion HasNarrowFloor xs → AllByRecursion HasNarrowFloor ys
floors_bare xs [] e h = tt
floors_bare [] (y ∷ ys) e h = absurd (none_there _ _ (sym e))
floors_bare (x ∷ xs) (y ∷ ys) e h = (floor_bare x y (heads _ _ _ _ e) h.0, floors_bare xs ys (tails _ _ _ _ e) h.1)

pub listing-bare : (k : ℕ) (t : Tree) → map bare (listing k t) ≡ preorder t
listing-bare k (split j f a b) =
    ap (λ ns. split_at j f 0 0 ∷ ns) (map-append bare (listing (k + 1) a) (listing (k + (1 + size a)) b) ∙ ap₂ (λ x y. x ++ y) (listing-bare (k + 1) a) (listing-bare (k + (1 + size a)) b))
listing-bare k (best ys) = refl
listing-bare k (empty ys) = refl
listing-bare k (clash i j) = refl

pub tree_made : (old now : List Node) (t : Tree) → length now ≤ 2 ^ 32 → All HasNarrowFloor old → map bare old ≡ preorder t → now ≡ listing 0 t → IsTree now
tree_made old now t l h e q = record {
  tree = Some t;
  listed = q;
  floors = All-from_recursion HasNarrowFloor now (floors_bare old now (e ∙ sym (listing-bare 0 t) ∙ sym (ap (map bare) q)) (recursion_from_All HasNarrowFloor old h));
  places = l;
}

-- ---- nodes that are written back
pub written_back : {X : Type 0} (n : ℕ) (new old : List X) → n ≡ length old → length new ≡ length old → take n (new ++ drop (length new) old) ≡ new
written_back n new old e h =
    let l : n ≤ length new = omega (arith, e, h) in
    let k : length new ≤ n = omega (arith, e, h) in
    take-append-le n new (drop (length new) old) l ∙ take_all n new k

pub placed_nodes : (old read now back : List TreeNode) (t : Tree) → read ≡ old → back ≡ now → map bare (map node_of old) ≡ preorder t
    → ((ts : List Tree) → map bare (map node_of read) ≡ preorders ts → map node_of now ≡ nodes_of_trees 0 ts) → map node_of back ≡ listing 0 t
placed_nodes old read now back t r b e h =
    ap (map node_of) b ∙ placed_tree (map node_of now) t (h (t ∷ []) (ap (λ xs. map bare (map node_of xs)) r ∙ one_tree (map node_of old) t e))

pub placed_is_tree : (old back : List TreeNode) (t : Tree) → length old ≤ 2 ^ 32 → length back ≡ length old → All HasNarrowFloor (map node_of old) → map bare (map node_of old) ≡ preorder t → map node_of back ≡ listing 0 t
    → IsTree (map node_of back)
placed_is_tree old back t l b f e q = let a = length-map back node_of in tree_made (map node_of old) (map node_of back) t (omega (arith, a, b, l)) f e q
