-- Where the parts of a listed tree begin and end.
use Rattle.std.proofs.Common.{◌≡◌, ℕ, ◌+◌, ◌<◌, ◌≤◌, refl, sym, ap, ap₂, ◌∙◌, List, ◌∷◌, ◌++◌, length, get_or, drop, map, subst, arith, append_assoc, length-append, length-drop}
use Rattle.std.specs.Prelude.{ℤ}
use Rattle.std.proofs.Math.Seq.{drop-cons}
use Rattle.std.proofs.lemmas.List.{drop-drop, drop_at}
use Rattle.opt_certificate.specs.Certificate.{Tree, split, best, empty, clash}
use Rattle.opt_certificate.specs.Nodes.{Node, split_at, best_leaf, empty_leaf, clash_leaf, size, listing}
use Rattle.std.proofs.lemmas.List.{get_or-map, length-map}
use Rattle.opt_certificate.specs.Trees.{node_of}
use Rattle.opt_certificate.specs.declared.tree.TreeNode.{TreeNode}
use Rattle.opt_certificate.proofs.Walks.{length-listing}

pub some_size : (t : Tree) → 0 < size t
some_size (split j f l u) = omega arith
some_size (best ys) = omega arith
some_size (empty ys) = omega arith
some_size (clash i j) = omega arith

-- the parts of a split
pub lower_is : (nodes : List Node) (k : ℕ) (j : ℕ) (f : ℤ) (l u : Tree) (rest : List Node) → drop k nodes ≡ listing k (split j f l u) ++ rest
    → drop (k + 1) nodes ≡ listing (k + 1) l ++ (listing (k + (1 + size l)) u ++ rest)
lower_is nodes k j f l u rest e = sym (drop-drop 1 k nodes) ∙ ap (drop 1) e ∙ append_assoc (listing (k + 1) l) (listing (k + (1 + size l)) u) rest

pub upper_is : (nodes : List Node) (k : ℕ) (j : ℕ) (f : ℤ) (l u : Tree) (rest : List Node) → drop k nodes ≡ listing k (split j f l u) ++ rest
    → drop (k + (1 + size l)) nodes ≡ listing (k + (1 + size l)) u ++ rest
upper_is nodes k j f l u rest e =
    let low = lower_is nodes k j f l u rest e in
    let i : (k + 1) + size l ≡ k + (1 + size l) = omega arith in
    sym (ap (λ n. drop n nodes) i) ∙ sym (drop-drop (size l) (k + 1) nodes) ∙ ap (drop (size l)) low
    ∙ drop_at (listing (k + 1) l) (listing (k + (1 + size l)) u ++ rest) (size l) (length-listing (k + 1) l)

-- a part lies within the list
pub part_within : (nodes : List Node) (k : ℕ) (t : Tree) (rest : List Node) → drop k nodes ≡ listing k t ++ rest → k + size t ≤ length nodes
part_within nodes k t rest e = omega (arith, ap length e, length-drop k nodes, length-append (listing k t) rest, length-listing k t, some_size t)

heads : {X : Type 0} (x y : X) (xs ys : List X) → x ∷ xs ≡ y ∷ ys → x ≡ y
heads x y xs ys e = cc

-- what a split at a place says of the tree that begins there
pub record Splits (nodes : List Node) (k j : ℕ) (f : ℤ) (lower upper : ℕ) (t : Tree) (rest : List Node) : Type 0 where
  pub low : Tree
  pub up : Tree
  pub tree : t ≡ split j f low up
  pub lower_at : lower ≡ k + 1
  pub upper_at : upper ≡ k + (1 + size low)
  pub within : upper < length nodes
  pub low_is : drop (k + 1) nodes ≡ listing (k + 1) low ++ (listing upper up ++ rest)
  pub up_is : drop upper nodes ≡ listing upper up ++ rest

first_is : (nodes : List Node) (k : ℕ) (node first : Node) (others : List Node) → k < length nodes → node ≡ get_or nodes k node → drop k nodes ≡ first ∷ others → node ≡ first
first_is nodes k node first others h e d = e ∙ heads _ _ _ _ (sym (drop-cons nodes k node h) ∙ d)

pub splits : (nodes : List Node) (k j : ℕ) (f : ℤ) (lower upper : ℕ) (t : Tree) (rest : List Node) → k < length nodes → split_at j f lower upper ≡ get_or nodes k (split_at j f lower upper)
    → drop k nodes ≡ listing k t ++ rest → Splits nodes k j f lower upper t rest
splits nodes k j f lower upper (best ys) rest h e d = let q = first_is nodes k (split_at j f lower upper) (best_leaf ys) rest h e d in absurd (cc)
splits nodes k j f lower upper (empty ys) rest h e d = let q = first_is nodes k (split_at j f lower upper) (empty_leaf ys) rest h e d in absurd (cc)
splits nodes k j f lower upper (clash x y) rest h e d = let q = first_is nodes k (split_at j f lower upper) (clash_leaf x y) rest h e d in absurd (cc)
splits nodes k j f lower upper (split i g l u) rest h e d =
    let q : split_at j f lower upper ≡ split_at i g (k + 1) (k + (1 + size l)) = first_is nodes k (split_at j f lower upper) (split_at i g (k + 1) (k + (1 + size l))) _ h e d in
    let a : j ≡ i = cc in
    let b : f ≡ g = cc in
    let c : lower ≡ k + 1 = cc in
    let v : upper ≡ k + (1 + size l) = cc in
    let up = upper_is nodes k i g l u rest d in
    let w = part_within nodes (k + (1 + size l)) u rest up in
    record {
      low = l;
      up = u;
      tree = ap₂ (λ j f. split j f l u) (sym a) (sym b);
      lower_at = c;
      upper_at = v;
      within = omega (arith, w, v, some_size u);
      low_is = lower_is nodes k i g l u rest d ∙ ap (λ n. listing (k + 1) l ++ (listing n u ++ rest)) (sym v);
      up_is = subst (λ n. drop n nodes ≡ listing n u ++ rest) (sym v) up;
    }

-- a node of the code at a place
pub node_read : (nodes : List TreeNode) (k : ℕ) (x : TreeNode) (node : Node) → k < length nodes → x ≡ get_or nodes k x → node_of x ≡ node → node ≡ get_or (map node_of nodes) k node
node_read nodes k x node h e f =
    subst (λ (n : Node). n ≡ get_or (map node_of nodes) k n) f (ap node_of e ∙ sym (get_or-map node_of nodes k x (node_of x) h))

pub read_within : (nodes : List TreeNode) (k : ℕ) → k < length nodes → k < length (map node_of nodes)
read_within nodes k h = omega (arith, length-map nodes node_of)

-- the tree that begins at a leaf is the leaf
pub best_size : (nodes : List Node) (k : ℕ) (ys : List Rattle.fractions.specs.Rational.ℚ) (t : Tree) (rest : List Node) → k < length nodes → best_leaf ys ≡ get_or nodes k (best_leaf ys) → drop k nodes ≡ listing k t ++ rest → size t ≡ 1
best_size nodes k ys (split i g l u) rest h e d = let q = first_is nodes k (best_leaf ys) (split_at i g (k + 1) (k + (1 + size l))) _ h e d in absurd (cc)
best_size nodes k ys (best zs) rest h e d = refl
best_size nodes k ys (empty zs) rest h e d = refl
best_size nodes k ys (clash x y) rest h e d = refl

pub empty_size : (nodes : List Node) (k : ℕ) (ys : List Rattle.fractions.specs.Rational.ℚ) (t : Tree) (rest : List Node) → k < length nodes → empty_leaf ys ≡ get_or nodes k (empty_leaf ys) → drop k nodes ≡ listing k t ++ rest → size t ≡ 1
empty_size nodes k ys (split i g l u) rest h e d = let q = first_is nodes k (empty_leaf ys) (split_at i g (k + 1) (k + (1 + size l))) _ h e d in absurd (cc)
empty_size nodes k ys (best zs) rest h e d = refl
empty_size nodes k ys (empty zs) rest h e d = refl
empty_size nodes k ys (clash x y) rest h e d = refl

pub clash_size : (nodes : List Node) (k i j : ℕ) (t : Tree) (rest : List Node) → k < length nodes → clash_leaf i j ≡ get_or nodes k (clash_leaf i j) → drop k nodes ≡ listing k t ++ rest → size t ≡ 1
clash_size nodes k i j (split a g l u) rest h e d = let q = first_is nodes k (clash_leaf i j) (split_at a g (k + 1) (k + (1 + size l))) _ h e d in absurd (cc)
clash_size nodes k i j (best zs) rest h e d = refl
clash_size nodes k i j (empty zs) rest h e d = refl
clash_size nodes k i j (clash x y) rest h e d = refl

-- a step along the upper parts ends where the tree does
pub same_end : (nodes : List Node) (k j : ℕ) (f : ℤ) (lower upper : ℕ) (u : Tree) (others : List Node) (s : Splits nodes k j f lower upper u others) (n : ℕ) → k + size u ≡ n → upper + size s.up ≡ n
same_end nodes k j f lower upper u others s n e = omega (arith, e, s.upper_at, ap size s.tree)
