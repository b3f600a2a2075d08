-- The tree of a search, the tree of its numbers, and the nodes that are made of these.
use Rattle.std.proofs.Common.{◌≡◌, ◌≢◌, ℕ, suc, ◌+◌, refl, sym, ap, ap₂, ◌∙◌, subst, List, [], ◌∷◌, ◌++◌, map, arith, inl, inr}
use Rattle.std.specs.Prelude.{Option, Some, None, Bool, ⊤}
use Rattle.std.proofs.lemmas.List.{map-append}
use Rattle.fractions.specs.Rational.{ℚ}
use Rattle.linear_programs.specs.Program.{Program, IsRegular}
use Rattle.linear_models.specs.Model.{Model, IsValid}
use Rattle.linear_models.specs.Standard.{standard}
use Rattle.opt_certificate.specs.Certificate.{Tree, split, best, empty, clash, lower_child, upper_child}
use Rattle.opt_certificate.specs.Nodes.{Node, split_at, best_leaf, empty_leaf, clash_leaf}
use Rattle.searches.specs.Trees.{Part, lower, upper, part_of, box_along, in_parts, in_clash, in_leaf}
use Rattle.searches.specs.Trees as trees
use Rattle.searches.specs.Trails.{is_plain, box_of, node_program}
use Rattle.searches.proofs.Boxes.{along-append}
use Rattle.searches.proofs.Ends.{node_regular}
use Rattle.branch_bound.specs.declared.frontier.Frontier.{Frontier}
use Rattle.search_certificates.specs.Leaves.{GivesBest, GivesEmpty}
use Rattle.search_certificates.specs.Nodes.{IsSplitIn, IsThere}
use Rattle.search_certificates.specs.Trees.{IsTreeAt}
use Rattle.search_certificates.specs.Weights.{weight_of, leaf_weight}
use Rattle.search_certificates.proofs.LeafProofs.{best_or_empty, empty_contradicts}
use Rattle.search_certificates.proofs.OneTree.{tree_there, one_best, one_empty}
use Rattle.search_trees.specs.declared.slots.Slot.{Slot}
use Rattle.search_trees.specs.declared.slots.Slot.TheVariants as slots
use Rattle.search_trees.specs.Slots.{slot_at}
use Rattle.search_trees.specs.Orders.{Shape, leaf, parts, numbers, IsShape}
use Rattle.search_trees.specs.Weights.{weight_at, added}
use Rattle.search_trees.specs.Solved.{IsLeafOf}
use Rattle.search_trees.specs.Made.{IsMade, AreMade}
use Rattle.search_trees.specs.Preorders.{bare, preorder}
use Rattle.search_trees.proofs.Known.{IsKnown, rest_of, path_by, path_is, opened_slot, waiting_slot}

-- ---- lists of numbers
added-append : (m : Model) (ps : List (List Part)) (ss : List Slot) (a b : List ℕ) → added m ps ss (a ++ b) ≡ added m ps ss a + added m ps ss b
added-append m ps ss [] b = omega arith
added-append m ps ss (n ∷ a) b = let h = added-append m ps ss a b in omega (arith, h)

record AreTwo (m : Model) (plain : Bool) (ps : List (List Part)) (ss : List Slot) (a b : List ℕ) (xs : List Node) : Type 0 where
  first : List Node
  second : List Node
  is : xs ≡ first ++ second
  one : AreMade m plain ps ss a first
  other : AreMade m plain ps ss b second

two_made : (m : Model) (plain : Bool) (ps : List (List Part)) (ss : List Slot) (a b : List ℕ) (xs : List Node) → AreMade m plain ps ss (a ++ b) xs → AreTwo m plain ps ss a b xs
two_made m plain ps ss [] b xs h = record { first = []; second = xs; is = refl; one = tt; other = h }
two_made m plain ps ss (n ∷ a) b [] h = absurd h
two_made m plain ps ss (n ∷ a) b (x ∷ xs) h =
    let r = two_made m plain ps ss a b xs h.1 in
    record { first = x ∷ r.first; second = r.second; is = ap (λ xs. x ∷ xs) r.is; one = (h.0, r.one); other = r.other }

-- ---- what the nodes and the weights of a tree are
abbrev pub Nodes : Model → Bool → Frontier → List Slot → Shape → Tree → Type 0
Nodes m plain f ss t u = (xs : List Node) → AreMade m plain f.paths.paths ss (numbers t) xs → map bare xs ≡ preorder u

abbrev pub Weighs : Model → Frontier → List Slot → trees.Node → Shape → Tree → Type 0
Weighs m f ss n t u = added m f.paths.paths ss (numbers t) ≡ weight_of m (box_of m n) u

abbrev pub Fits : Model → Bool → Frontier → List Slot → trees.Node → Shape → Tree → Type 0
Fits m plain f ss n t u = Weighs m f ss n t u × Nodes m plain f ss t u

-- a leaf of a slot
leaf_fits : (m : Model) (plain : Bool) (f : Frontier) (ss : List Slot) (n : trees.Node) (u : Tree) (s : Slot) (w : ℕ) → slot_at ss n.number ≡ s → n.path ≡ path_by f n.number
    → weight_at m s (box_of m n) ≡ w → w ≡ weight_of m (box_of m n) u → ((x : Node) → IsMade m plain f.paths.paths s n.number x → bare x ∷ [] ≡ preorder u) → Fits m plain f ss n (leaf n.number) u
leaf_fits m plain f ss n u s w e p h k made = (weigh, node)
  where
    weigh : weight_at m (slot_at ss n.number) (box_along m.bounds (path_by f n.number)) + 0 ≡ weight_of m (box_of m n) u
    weigh =
        let a : weight_at m (slot_at ss n.number) (box_along m.bounds (path_by f n.number)) ≡ weight_at m s (box_of m n) = ap₂ (λ s ps. weight_at m s (box_along m.bounds ps)) e (sym p) in
        omega (arith, a, h, k)

    node : (xs : List Node) → AreMade m plain f.paths.paths ss (n.number ∷ []) xs → map bare xs ≡ preorder u
    node [] i = absurd i
    node (x ∷ []) i = made x (subst (λ s. IsMade m plain f.paths.paths s n.number x) e i.0)
    node (x ∷ y ∷ xs) i = absurd i.1

same_shape : (ss : List Slot) (k : ℕ) (s : Slot) (t : Shape) → slot_at ss k ≡ s → ((c : ℕ) → s ≢ slots.Parts c) → IsShape ss k t → t ≡ leaf k
same_shape ss k s (leaf n) e apart h = ap leaf h.0
same_shape ss k s (parts n a b) e apart h = absurd (apart h.1 (sym e ∙ h.2))

-- ---- leaves
same_list : (ys zs : List ℚ) → ys ≡ zs → best_leaf ys ∷ [] ≡ best_leaf zs ∷ []
same_list ys zs e = ap (λ ys. best_leaf ys ∷ []) e

best_made : (p : Program) (ys : List ℚ) (x : Node) → IsRegular p → GivesBest p ys → IsLeafOf p x → bare x ∷ [] ≡ best_leaf ys ∷ []
best_made p ys (best_leaf zs) r g h = same_list zs ys (one_best p zs ys r h g)
best_made p ys (empty_leaf zs) r g h = absurd (best_or_empty p ys zs r g (empty_contradicts p zs r h))
best_made p ys (clash_leaf i j) r g h = absurd h
best_made p ys (split_at j f a b) r g h = absurd h

empty_made : (p : Program) (ys : List ℚ) (x : Node) → IsRegular p → GivesEmpty p ys → IsLeafOf p x → bare x ∷ [] ≡ empty_leaf ys ∷ []
empty_made p ys (best_leaf zs) r g h = absurd (best_or_empty p zs ys r h (empty_contradicts p ys r g))
empty_made p ys (empty_leaf zs) r g h = ap (λ ys. empty_leaf ys ∷ []) (one_empty p zs ys r h g)
empty_made p ys (clash_leaf i j) r g h = absurd h
empty_made p ys (split_at j f a b) r g h = absurd h

no_parts_leaf : (k c : ℕ) → slots.Leaf k ≢ slots.Parts c
no_parts_leaf k c e = cc

no_parts_waits : (c : ℕ) → slots.Waits ≢ slots.Parts c
no_parts_waits c e = cc

no_parts_clash : (i j c : ℕ) → slots.Clash i j ≢ slots.Parts c
no_parts_clash i j c e = cc

-- ---- a split
split_fits : (m : Model) (plain : Bool) (f : Frontier) (ss : List Slot) (n : trees.Node) (j : ℕ) (g : Rattle.std.specs.Prelude.ℤ) (x y : trees.Node) (low high : Tree) (k : ℕ) (a b : Shape) → k ≡ n.number → IsSplitIn (rest_of f) n j g x y
    → slot_at ss n.number ≡ slots.Parts x.number → IsThere (rest_of f) x → Fits m plain f ss x a low → Fits m plain f ss y b high → Fits m plain f ss n (parts k a b) (split j g low high)
split_fits m plain f ss n j g x y low high k a b q z s there l u = (weigh, node)
  where
    here : slot_at ss k ≡ slots.Parts x.number
    here = ap (slot_at ss) q ∙ s

    low_box : box_of m x ≡ lower_child (box_of m n) j g
    low_box = ap (box_along m.bounds) z.low_path ∙ along-append m.bounds n.path (lower j g)

    high_box : box_of m y ≡ upper_child (box_of m n) j g
    high_box = ap (box_along m.bounds) z.high_path ∙ along-append m.bounds n.path (upper j g)

    weigh : weight_at m (slot_at ss k) (box_along m.bounds (path_by f k)) + added m f.paths.paths ss (numbers a ++ numbers b) ≡ weight_of m (lower_child (box_of m n) j g) low + weight_of m (upper_child (box_of m n) j g) high
    weigh =
        let c : weight_at m (slot_at ss k) (box_along m.bounds (path_by f k)) ≡ 0 = ap (λ s. weight_at m s (box_along m.bounds (path_by f k))) here in
        let d = added-append m f.paths.paths ss (numbers a) (numbers b) in
        let e = l.0 ∙ ap (λ box. weight_of m box low) low_box in
        let o = u.0 ∙ ap (λ box. weight_of m box high) high_box in
        omega (arith, c, d, e, o)

    node : (xs : List Node) → AreMade m plain f.paths.paths ss (k ∷ (numbers a ++ numbers b)) xs → map bare xs ≡ split_at j g 0 0 ∷ (preorder low ++ preorder high)
    node [] i = absurd i
    node (w ∷ xs) i =
        let r = two_made m plain f.paths.paths ss (numbers a) (numbers b) xs i.1 in
        let made : IsMade m plain f.paths.paths (slots.Parts x.number) k w = subst (λ s. IsMade m plain f.paths.paths s k w) here i.0 in
        let this = made j g (n.path, sym (path_is f x there) ∙ z.low_path) in
        ap₂ (λ x xs. x ∷ xs) (ap bare this) (ap (map bare) r.is ∙ map-append bare r.first r.second ∙ ap₂ (λ x y. x ++ y) (l.1 r.first r.one) (u.1 r.second r.other))

-- ---- trees
fits : (m : Model) (plain : Bool) (f : Frontier) (ss : List Slot) (first : ℕ) → IsValid m → is_plain (rest_of f).way ≡ plain → IsKnown m f ss first
    → (n : trees.Node) (u : Tree) (t : Shape) → IsTreeAt m (rest_of f) n u → IsShape ss n.number t → Fits m plain f ss n t u
fits m plain f ss first v way h = at_node
  where
    program : (n : trees.Node) → n.path ≡ path_by f n.number → standard m (box_along m.bounds (path_by f n.number)) plain ≡ node_program m (rest_of f).way n
    program n p = ap₂ (λ ps b. standard m (box_along m.bounds ps) b) (sym p) (sym way)

    at_leaf : (n : trees.Node) (u : Tree) (t : Shape) (s : Slot) (w : ℕ) → slot_at ss n.number ≡ s → ((c : ℕ) → s ≢ slots.Parts c) → n.path ≡ path_by f n.number
        → weight_at m s (box_of m n) ≡ w → w ≡ weight_of m (box_of m n) u → ((x : Node) → IsMade m plain f.paths.paths s n.number x → bare x ∷ [] ≡ preorder u) → IsShape ss n.number t → Fits m plain f ss n t u
    at_leaf n u t s w e apart p a b made i = subst (λ t. Fits m plain f ss n t u) (sym (same_shape ss n.number s t e apart i)) (leaf_fits m plain f ss n u s w e p a b made)

    solved : (n : trees.Node) (x : Node) → n.path ≡ path_by f n.number → IsLeafOf (standard m (box_along m.bounds (path_by f n.number)) plain) x → IsLeafOf (node_program m (rest_of f).way n) x
    solved n x p i = subst (λ p. IsLeafOf p x) (program n p) i

    at_node : (n : trees.Node) (u : Tree) (t : Shape) → IsTreeAt m (rest_of f) n u → IsShape ss n.number t → Fits m plain f ss n t u
    at_node n (best ys) t (inl x) i =
        let p = path_is f n (inl (in_leaf, x.0)) in
        at_leaf n (best ys) t (slots.Leaf x.0.pivots) (leaf_weight m (box_of m n)) (opened_slot m f ss first n in_leaf h x.0) (no_parts_leaf x.0.pivots) p refl refl
        (λ z k. best_made (node_program m (rest_of f).way n) ys z (node_regular m (rest_of f).way n v) x.1 (solved n z p k)) i
    at_node n (best ys) t (inr x) i =
        at_leaf n (best ys) t slots.Waits (leaf_weight m (box_of m n)) (waiting_slot m f ss first n h x.0) no_parts_waits (path_is f n (inr x.0)) refl refl
        (λ z k. ap (λ z. bare z ∷ []) k ∙ same_list [] ys (sym x.1)) i
    at_node n (empty ys) t x i =
        let p = path_is f n (inl (in_leaf, x.0)) in
        at_leaf n (empty ys) t (slots.Leaf x.0.pivots) (leaf_weight m (box_of m n)) (opened_slot m f ss first n in_leaf h x.0) (no_parts_leaf x.0.pivots) p refl refl
        (λ z k. empty_made (node_program m (rest_of f).way n) ys z (node_regular m (rest_of f).way n v) x.1 (solved n z p k)) i
    at_node n (clash a b) t x i =
        at_leaf n (clash a b) t (slots.Clash a b) (leaf_weight m (box_of m n)) (opened_slot m f ss first n (in_clash a b) h x) (no_parts_clash a b) (path_is f n (inl (in_clash a b, x))) refl refl
        (λ z k. ap (λ z. bare z ∷ []) k) i
    at_node n (split j g low high) (leaf k) (x, y, z, w) i = absurd (i.1 x.number (opened_slot m f ss first n (in_parts x.number) h z.opened))
    at_node n (split j g low high) (parts k a b) (x, y, z, w) (q, c, e, r) =
        let s : slot_at ss n.number ≡ slots.Parts x.number = opened_slot m f ss first n (in_parts x.number) h z.opened in
        let one : c ≡ x.number = same c x.number (sym e ∙ s) in
        let l = at_node x low a w.0 (subst (λ c. IsShape ss c a) one r.0) in
        let u = at_node y high b w.1 (subst (λ c. IsShape ss c b) (ap suc one ∙ sym z.next) r.1) in
        split_fits m plain f ss n j g x y low high k a b q z s (tree_there m (rest_of f) x low w.0) l u
      where
        same : (c d : ℕ) → slots.Parts c ≡ slots.Parts d → c ≡ d
        same c d e = cc

pub tree_fits : (m : Model) (plain : Bool) (f : Frontier) (ss : List Slot) (first : ℕ) (n : trees.Node) (u : Tree) (t : Shape) → IsValid m → is_plain (rest_of f).way ≡ plain → IsKnown m f ss first
    → IsTreeAt m (rest_of f) n u → IsShape ss n.number t → Fits m plain f ss n t u
tree_fits m plain f ss first n u t v w h = fits m plain f ss first v w h n u t
