-- What is asked of the numbers of a tree in preorder.
use Rattle.std.proofs.Common.{◌≡◌, ◌≢◌, ℕ, ℤ, suc, ◌+◌, ◌*◌, ◌^◌, ◌<◌, ◌≤◌, refl, sym, ap, ap₂, ◌∙◌, subst, List, [], ◌∷◌, ◌++◌, length, map, take, get_or, arith, inl, inr, Bool}
use Rattle.std.specs.Prelude.{All}
use Rattle.std.specs.List.{AllByRecursion}
use Rattle.std.proofs.lemmas.List.{length-map, take_more}
use Rattle.std.proofs.lemmas.List.Elements.{All-from_recursion}
use Rattle.linear_models.specs.Model.{Model}
use Rattle.opt_certificate.specs.Certificate.{Tree, split, best, empty, clash}
use Rattle.opt_certificate.specs.Nodes.{Node, size}
use Rattle.opt_certificate.specs.Trees.{node_of}
use Rattle.opt_certificate.specs.declared.tree.TreeNode.{TreeNode}
use Rattle.searches.specs.Trees.{Part, box_along}
use Rattle.searches.specs.Trails.{is_plain}
use Rattle.branch_bound.specs.declared.frontier.Frontier.{Frontier}
use Rattle.branch_bound.specs.States.{path_of}
use Rattle.search_certificates.specs.Weights.{weight_of}
use Rattle.search_certificates.proofs.Lightness.{places_fit}
use Rattle.search_trees.specs.declared.slots.Slot.{Slot}
use Rattle.search_trees.specs.declared.slots.Slot.TheVariants as slots
use Rattle.search_trees.specs.Slots.{slot_at}
use Rattle.search_trees.specs.Orders.{Shape, leaf, parts, numbers, IsShape, AreLater}
use Rattle.search_trees.specs.Weights.{added, weight_at}
use Rattle.search_trees.specs.Made.{MayBeMade, IsMade, AreMade}
use Rattle.search_trees.specs.Preorders.{bare, preorder}
use Rattle.search_trees.proofs.Known.{IsKnown, rest_of, parted, run_ends}

-- ---- each number is one of a slot from the root on
abbrev pub IsFrom : ℕ → List Slot → ℕ → Type 0
IsFrom root ss n = (root ≤ n) × (n < length ss)

both : (P : ℕ → Type 0) (xs ys : List ℕ) → AllByRecursion P xs → AllByRecursion P ys → AllByRecursion P (xs ++ ys)
both P [] ys h k = k
both P (x ∷ xs) ys h k = (h.0, both P xs ys h.1 k)

shape_from : (root : ℕ) (ss : List Slot) (k : ℕ) (t : Shape) → AreLater root ss → IsFrom root ss k → IsShape ss k t → AllByRecursion (IsFrom root ss) (numbers t)
shape_from root ss k (leaf n) l f h = (subst (IsFrom root ss) (sym h.0) f, tt)
shape_from root ss k (parts n low high) l f (q, c, e, r) =
    let b = l k c f.0 e in
    let x = b.0 in
    let y = b.1 in
    let z = f.0 in (
      subst (IsFrom root ss) (sym q) f,
      both (IsFrom root ss) (numbers low) (numbers high) (shape_from root ss c low l (omega (arith, x, z), omega (arith, y)) r.0) (shape_from root ss (suc c) high l (omega (arith, x, z), omega (arith, y)) r.1),
    )

weaker : (P Q : ℕ → Type 0) (xs : List ℕ) → ((n : ℕ) → P n → Q n) → AllByRecursion P xs → AllByRecursion Q xs
weaker P Q [] f h = tt
weaker P Q (x ∷ xs) f h = (f x h.0, weaker P Q xs f h.1)

-- ---- a node may be made
may_be_made : (m : Model) (f : Frontier) (ss : List Slot) (first k : ℕ) → IsKnown m f ss first → IsFrom first ss k → (s : Slot) → slot_at ss k ≡ s → MayBeMade m (is_plain (rest_of f).way) f.paths.paths s k
may_be_made m f ss first k h l slots.Waits e = tt
may_be_made m f ss first k h l (slots.Parts c) e =
    let p = parted m f ss first k c h l.0 e in
    let x = p.few in
    (omega (arith, x), p.decision, p.floor, p.low_path)
may_be_made m f ss first k h l (slots.Clash i j) e = tt
may_be_made m f ss first k h l (slots.Leaf pivots) e = run_ends m f ss first k pivots h l.0 l.1 e

pub all_there : (m : Model) (f : Frontier) (ss : List Slot) (first : ℕ) (t : Shape) (order : List ℕ) → IsKnown m f ss first → AreLater first ss → first < length ss → IsShape ss first t → order ≡ numbers t
    → All (λ n. n < length f.paths.paths) order
all_there m f ss first t order h l b i q =
    All-from_recursion (λ n. n < length f.paths.paths) order
    (subst (AllByRecursion (λ n. n < length f.paths.paths)) (sym q)
    (weaker (IsFrom first ss) (λ n. n < length f.paths.paths) (numbers t) (λ n k. let x = k.1 in let s = h.slots.size in omega (arith, x, s)) (shape_from first ss first t l (omega arith, b) i)))

pub all_may : (m : Model) (f : Frontier) (ss : List Slot) (first : ℕ) (t : Shape) (order : List ℕ) → IsKnown m f ss first → AreLater first ss → first < length ss → IsShape ss first t → order ≡ numbers t
    → All (λ n. MayBeMade m (is_plain (rest_of f).way) f.paths.paths (slot_at ss n) n) order
all_may m f ss first t order h l b i q =
    All-from_recursion (λ n. MayBeMade m (is_plain (rest_of f).way) f.paths.paths (slot_at ss n) n) order
    (subst (AllByRecursion (λ n. MayBeMade m (is_plain (rest_of f).way) f.paths.paths (slot_at ss n) n)) (sym q)
    (weaker (IsFrom first ss) (λ n. MayBeMade m (is_plain (rest_of f).way) f.paths.paths (slot_at ss n) n) (numbers t) (λ n k. may_be_made m f ss first n h k (slot_at ss n) refl)
    (shape_from first ss first t l (omega arith, b) i)))

-- ---- one node more is made
pub made_more : (m : Model) (plain : Bool) (ps : List (List Part)) (ss : List Slot) (ns : List ℕ) (xs : List Node) (n : ℕ) (x : Node) → AreMade m plain ps ss ns xs → IsMade m plain ps (slot_at ss n) n x
    → AreMade m plain ps ss (ns ++ n ∷ []) (xs ++ x ∷ [])
made_more m plain ps ss [] [] n x h k = (k, tt)
made_more m plain ps ss [] (y ∷ xs) n x h k = absurd h
made_more m plain ps ss (i ∷ ns) [] n x h k = absurd h
made_more m plain ps ss (i ∷ ns) (y ∷ xs) n x h k = (h.0, made_more m plain ps ss ns xs n x h.1 k)

-- and weighed
pub added_more : (m : Model) (ps : List (List Part)) (ss : List Slot) (ns : List ℕ) (n : ℕ) → added m ps ss (ns ++ n ∷ []) ≡ added m ps ss ns + added m ps ss (n ∷ [])
added_more m ps ss [] n = omega arith
added_more m ps ss (i ∷ ns) n = let h = added_more m ps ss ns n in omega (arith, h)

-- ---- a light tree has few nodes
preorder-length : (t : Tree) → length (preorder t) ≡ size t
preorder-length (split j f a b) =
    let h = preorder-length a in
    let k = preorder-length b in
    let e = Rattle.std.proofs.Common.length-append (preorder a) (preorder b) in
    omega (arith, h, k, e)
preorder-length (best ys) = refl
preorder-length (empty ys) = refl
preorder-length (clash i j) = refl

pub few_nodes : (m : Model) (nodes : List TreeNode) (t : Tree) → map bare (map node_of nodes) ≡ preorder t → weight_of m m.bounds t ≤ 100000 → length nodes ≤ 2 ^ 32
few_nodes m nodes t e w =
    let a = ap length e in
    let b = length-map (map node_of nodes) bare in
    let c = length-map nodes node_of in
    let d = preorder-length t in
    let f = places_fit m t in
    omega (arith, a, b, c, d, f, w)

-- ---- by equal lists
pub made_at : (m : Model) (plain : Bool) (ps qs : List (List Part)) (ss : List Slot) (n : ℕ) (s : Slot) (x : Node) → qs ≡ ps → s ≡ slot_at ss n → IsMade m plain qs s n x → IsMade m plain ps (slot_at ss n) n x
made_at m plain ps qs ss n s x e q h = subst (λ (s : Slot). IsMade m plain ps s n x) q (subst (λ (qs : List (List Part)). IsMade m plain qs s n x) e h)

pub made_is : (m : Model) (plain : Bool) (qs ps : List (List Part)) (rs ss : List Slot) (ks ns : List ℕ) (xs : List Node) → qs ≡ ps → rs ≡ ss → ks ≡ ns → AreMade m plain qs rs ks xs → AreMade m plain ps ss ns xs
made_is m plain qs ps rs ss ks ns xs e f g h =
    subst (λ (ns : List ℕ). AreMade m plain ps ss ns xs) g (subst (λ (ss : List Slot). AreMade m plain ps ss ks xs) f (subst (λ (ps : List (List Part)). AreMade m plain ps rs ks xs) e h))

pub weight_is : (m : Model) (qs ps : List (List Part)) (ss : List Slot) (n : ℕ) (s : Slot) (w : ℕ) → qs ≡ ps → s ≡ slot_at ss n → w ≡ weight_at m s (box_along m.bounds (path_of qs n))
    → w ≡ weight_at m (slot_at ss n) (box_along m.bounds (path_of ps n))
weight_is m qs ps ss n s w e q h = h ∙ ap₂ (λ (s : Slot) (qs : List (List Part)). weight_at m s (box_along m.bounds (path_of qs n))) q e

pub added_last : (m : Model) (ps : List (List Part)) (ss : List Slot) (order : List ℕ) (i : ℕ) → i < length order
    → added m ps ss (take (i + 1) order) ≡ added m ps ss (take i order) + weight_at m (slot_at ss (get_or order i 0)) (box_along m.bounds (path_of ps (get_or order i 0)))
added_last m ps ss order i l =
    let x = weight_at m (slot_at ss (get_or order i 0)) (box_along m.bounds (path_of ps (get_or order i 0))) in
    let e : x + 0 ≡ x = omega arith in
    ap (added m ps ss) (take_more order i 0 l) ∙ added_more m ps ss (take i order) (get_or order i 0) ∙ ap (λ (k : ℕ). added m ps ss (take i order) + k) e

pub added_is : (m : Model) (ps : List (List Part)) (rs ss : List Slot) (ks ns : List ℕ) (w : ℕ) → rs ≡ ss → ks ≡ ns → w ≡ added m ps rs ks → w ≡ added m ps ss ns
added_is m ps rs ss ks ns w e f h = h ∙ ap₂ (λ (ss : List Slot) (ns : List ℕ). added m ps ss ns) e f

pub all_below : (xs ys : List ℕ) (a b : ℕ) → xs ≡ ys → a ≡ b → All (λ n. n < b) ys → All (λ n. n < a) xs
all_below xs ys a b e f h = subst (λ (a : ℕ). All (λ n. n < a) xs) (sym f) (subst (λ (xs : List ℕ). All (λ n. n < b) xs) (sym e) h)

pub may_is : (m : Model) (plain other : Bool) (qs ps : List (List Part)) (rs ss : List Slot) (ks ns : List ℕ) → other ≡ plain → qs ≡ ps → rs ≡ ss → ks ≡ ns → All (λ n. MayBeMade m plain ps (slot_at ss n) n) ns
    → All (λ n. MayBeMade m other qs (slot_at rs n) n) ks
may_is m plain other qs ps rs ss ks ns b e f g h =
    subst (λ (other : Bool). All (λ n. MayBeMade m other qs (slot_at rs n) n) ks) (sym b)
    (subst (λ (qs : List (List Part)). All (λ n. MayBeMade m plain qs (slot_at rs n) n) ks) (sym e)
    (subst (λ (rs : List Slot). All (λ n. MayBeMade m plain ps (slot_at rs n) n) ks) (sym f) (subst (λ (ks : List ℕ). All (λ n. MayBeMade m plain ps (slot_at ss n) n) ks) (sym g) h)))
