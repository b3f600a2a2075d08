-- Nodes are a tree's exactly where each of them is right and the first tree ends with them.
use Rattle.std.proofs.Common.{◌≡◌, ℕ, suc, ◌+◌, ◌-◌, ◌<◌, ◌≤◌, ◌^◌, refl, sym, ap, ap₂, ◌∙◌, List, [], ◌∷◌, ◌++◌, length, get_or, drop, subst, arith, append_assoc, append-nil, length-append, length-drop, Option, Some, None, ◌⊎◌, inl, inr}
use Rattle.std.specs.Prelude.{ℤ, All}
use Rattle.std.proofs.Math.Seq.{drop-cons}
use Rattle.std.proofs.lemmas.List.{drop-drop, drop_at}
use Rattle.opt_certificate.specs.Certificate.{Tree, split, best, empty, clash}
use Rattle.opt_certificate.specs.Nodes.{Node, split_at, best_leaf, empty_leaf, clash_leaf, size, listing, HasNarrowFloor, IsListed}
use Rattle.opt_certificate.specs.Parts.{Part, PartsFrom, IsRight}
use Rattle.opt_certificate.specs.Trees.{IsTree}
use Rattle.opt_certificate.proofs.Walks.{length-listing}
use Rattle.opt_certificate.proofs.Lookups.{any_default}
use Rattle.opt_certificate.proofs.Ends.{splits, lower_is, upper_is}

-- what the code tests of a split
abbrev pub Tested : List Node → ℕ → ℕ → ℕ → Type 0
Tested nodes k lower upper = (lower ≡ k + 1) × (upper < length nodes) × (t : Tree) × (rest : List Node) × (drop (k + 1) nodes ≡ listing (k + 1) t ++ rest) × (upper ≡ (k + 1) + size t)

floor_of_split : (nodes : List Node) (k : ℕ) (node : Node) → k < length nodes → node ≡ get_or nodes k node → HasNarrowFloor node → (d : Node) → HasNarrowFloor (get_or nodes k d)
floor_of_split nodes k node h e f d = subst HasNarrowFloor (e ∙ any_default nodes k node d h) f

-- one more node in front of what is listed
front : (nodes : List Node) (k : ℕ) (node : Node) → k < length nodes → node ≡ get_or nodes k node → drop k nodes ≡ node ∷ drop (k + 1) nodes
front nodes k node h e = let q : suc k ≡ k + 1 = omega arith in drop-cons nodes k node h ∙ ap₂ (λ x n. x ∷ drop n nodes) (sym e) q

pub split_right : (nodes : List Node) (k j : ℕ) (f : ℤ) (lower upper : ℕ) → k < length nodes → split_at j f lower upper ≡ get_or nodes k (split_at j f lower upper) → PartsFrom nodes (k + 1)
    → HasNarrowFloor (split_at j f lower upper) → Tested nodes k lower upper → IsRight nodes k
split_right nodes k j f lower upper h e p z t =
    let u = p upper (omega (arith, t.5)) t.1 in
    let r : drop upper nodes ≡ t.3 = ap (λ n. drop n nodes) t.5 ∙ sym (drop-drop (size t.2) (k + 1) nodes) ∙ ap (drop (size t.2)) t.4 ∙ drop_at (listing (k + 1) t.2) t.3 (size t.2) (length-listing (k + 1) t.2) in
    let v : upper ≡ k + (1 + size t.2) = omega (arith, t.5) in
    let w : t.3 ≡ listing (k + (1 + size t.2)) u.tree ++ u.rest = sym r ∙ u.is ∙ ap (λ n. listing n u.tree ++ u.rest) v in
    record {
      part = record {
        tree = split j f t.2 u.tree;
        rest = u.rest;
        is = front nodes k (split_at j f lower upper) h e ∙ ap₂ (λ a b. split_at j f a b ∷ drop (k + 1) nodes) t.0 v
            ∙ ap (λ xs. split_at j f (k + 1) (k + (1 + size t.2)) ∷ xs) (t.4 ∙ ap (λ xs. listing (k + 1) t.2 ++ xs) w ∙ sym (append_assoc (listing (k + 1) t.2) (listing (k + (1 + size t.2)) u.tree) u.rest));
      };
      floor = floor_of_split nodes k (split_at j f lower upper) h e z;
    }

pub split_tested : (nodes : List Node) (k j : ℕ) (f : ℤ) (lower upper : ℕ) → k < length nodes → split_at j f lower upper ≡ get_or nodes k (split_at j f lower upper) → IsRight nodes k → Tested nodes k lower upper
split_tested nodes k j f lower upper h e r =
    let s = splits nodes k j f lower upper r.part.tree r.part.rest h e r.part.is in
    (s.lower_at, s.within, s.low, listing upper s.up ++ r.part.rest, s.low_is, omega (arith, s.upper_at))

pub right_floor : (nodes : List Node) (k : ℕ) (node : Node) → k < length nodes → node ≡ get_or nodes k node → IsRight nodes k → HasNarrowFloor node
right_floor nodes k node h e r = subst HasNarrowFloor (sym e) (r.floor node)

pub best_right : (nodes : List Node) (k : ℕ) (ys : List Rattle.fractions.specs.Rational.ℚ) → k < length nodes → best_leaf ys ≡ get_or nodes k (best_leaf ys) → IsRight nodes k
best_right nodes k ys h e = record { part = record { tree = best ys; rest = drop (k + 1) nodes; is = front nodes k (best_leaf ys) h e }; floor = floor_of_split nodes k (best_leaf ys) h e tt }

pub empty_right : (nodes : List Node) (k : ℕ) (ys : List Rattle.fractions.specs.Rational.ℚ) → k < length nodes → empty_leaf ys ≡ get_or nodes k (empty_leaf ys) → IsRight nodes k
empty_right nodes k ys h e = record { part = record { tree = empty ys; rest = drop (k + 1) nodes; is = front nodes k (empty_leaf ys) h e }; floor = floor_of_split nodes k (empty_leaf ys) h e tt }

pub clash_right : (nodes : List Node) (k i j : ℕ) → k < length nodes → clash_leaf i j ≡ get_or nodes k (clash_leaf i j) → IsRight nodes k
clash_right nodes k i j h e = record { part = record { tree = clash i j; rest = drop (k + 1) nodes; is = front nodes k (clash_leaf i j) h e }; floor = floor_of_split nodes k (clash_leaf i j) h e tt }

-- ---- in a listed tree a tree begins at each place
everywhere : (nodes : List Node) (k : ℕ) (t : Tree) (rest : List Node) → drop k nodes ≡ listing k t ++ rest → (i : ℕ) → k ≤ i → i < k + size t → Part nodes i
everywhere nodes k (split j f l u) rest e i low high =
    chosen (place_of i k (size l) low) (λ a b. everywhere nodes (k + 1) l (listing (k + (1 + size l)) u ++ rest) (lower_is nodes k j f l u rest e) i a b) (λ a. everywhere nodes (k + (1 + size l)) u rest (upper_is nodes k j f l u rest e) i a (omega arith))
  where
    place_of : (i k s : ℕ) → k ≤ i → ((i ≡ k) ⊎ ((k + 1 ≤ i) × (i < (k + 1) + s))) ⊎ (k + (1 + s) ≤ i)
    place_of i k s h = grind arith

    chosen : ((i ≡ k) ⊎ ((k + 1 ≤ i) × (i < (k + 1) + size l))) ⊎ (k + (1 + size l) ≤ i) → (k + 1 ≤ i → i < (k + 1) + size l → Part nodes i) → (k + (1 + size l) ≤ i → Part nodes i) → Part nodes i
    chosen (inl (inl q)) a b = subst (Part nodes) (sym q) record { tree = split j f l u; rest = rest; is = e }
    chosen (inl (inr q)) a b = a q.0 q.1
    chosen (inr q) a b = b q
everywhere nodes k (best ys) rest e i low high = let q : i ≡ k = omega arith in subst (Part nodes) (sym q) record { tree = best ys; rest = rest; is = e }
everywhere nodes k (empty ys) rest e i low high = let q : i ≡ k = omega arith in subst (Part nodes) (sym q) record { tree = empty ys; rest = rest; is = e }
everywhere nodes k (clash x y) rest e i low high = let q : i ≡ k = omega arith in subst (Part nodes) (sym q) record { tree = clash x y; rest = rest; is = e }

pub tree_right : (nodes : List Node) → IsTree nodes → (i : ℕ) → i < length nodes → IsRight nodes i
tree_right nodes t i h = record { part = part t.tree t.listed; floor = λ d. t.floors i d h }
  where
    part : (o : Option Tree) → IsListed nodes o → Part nodes i
    part None l = absurd (omega (arith, ap length l))
    part (Some u) l = everywhere nodes 0 u [] (l ∙ sym (append-nil (listing 0 u))) i (omega arith) (omega (arith, ap length l, length-listing 0 u))

all_floors : (nodes : List Node) → ((i : ℕ) → i < length nodes → IsRight nodes i) → All HasNarrowFloor nodes
all_floors nodes r = λ i d h. (r i h).floor d

pub no_nodes_tree : (nodes : List Node) → length nodes ≡ 0 → ((i : ℕ) → i < length nodes → IsRight nodes i) → IsTree nodes
no_nodes_tree [] h r = record { tree = None; listed = refl; floors = all_floors [] r; places = omega arith }
no_nodes_tree (x ∷ nodes) h r = absurd (omega arith)

-- where the first tree ends with the nodes
pub whole_tree : (nodes : List Node) (end : ℕ) → 0 < length nodes → length nodes ≤ 2 ^ 32 → ((i : ℕ) → i < length nodes → IsRight nodes i)
    → ((t : Tree) (rest : List Node) → drop 0 nodes ≡ listing 0 t ++ rest → end ≡ 0 + size t) → end ≡ length nodes → IsTree nodes
whole_tree nodes end h m r f e =
    let p = (r 0 h).part in
    let n : 0 + size p.tree ≡ length nodes = sym (f p.tree p.rest p.is) ∙ e in
    record { tree = Some p.tree; listed = p.is ∙ ap (λ xs. listing 0 p.tree ++ xs) (nothing p.rest (omega (arith, n, ap length p.is, length-append (listing 0 p.tree) p.rest, length-listing 0 p.tree, length-drop 0 nodes))) ∙ append-nil (listing 0 p.tree); floors = all_floors nodes r; places = m }
  where
    nothing : (xs : List Node) → length xs ≡ 0 → xs ≡ []
    nothing [] q = refl
    nothing (x ∷ xs) q = absurd (omega arith)

pub tree_end : (nodes : List Node) (end : ℕ) → 0 < length nodes → IsTree nodes → ((t : Tree) (rest : List Node) → drop 0 nodes ≡ listing 0 t ++ rest → end ≡ 0 + size t) → end ≡ length nodes
tree_end nodes end h t f = cases t.tree t.listed
  where
    cases : (o : Option Tree) → IsListed nodes o → end ≡ length nodes
    cases None l = absurd (omega (arith, ap length l))
    cases (Some u) l = f u [] (l ∙ sym (append-nil (listing 0 u))) ∙ omega (arith, ap length l, length-listing 0 u)

-- what holds at a place and at all later ones
pub one_lower : (P : ℕ → Type 0) (k n : ℕ) → 0 < k → P (k - 1) → ((i : ℕ) → k ≤ i → i < n → P i) → (i : ℕ) → k - 1 ≤ i → i < n → P i
one_lower P k n h p f i l m = cases (which i k h l)
  where
    which : (i k : ℕ) → 0 < k → k - 1 ≤ i → (k - 1 ≡ i) ⊎ (k ≤ i)
    which i k h l = grind arith

    cases : (k - 1 ≡ i) ⊎ (k ≤ i) → P i
    cases (inl q) = subst P q p
    cases (inr q) = f i q m
