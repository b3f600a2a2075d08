-- The tree of a search that is over certifies its answer.
use Rattle.std.proofs.Common.{◌≡◌, ℕ, suc, ◌<◌, ◌≤◌, refl, sym, ap, ◌∙◌, subst, List, [], ◌∷◌, ◌++◌, arith, true, false, inl, inr, ◌⊎◌}
use Rattle.std.specs.Prelude.{Option, Some, None, Result, ℤ}
use Rattle.fractions.specs.Rational.{ℚ}
use Rattle.linear_programs.specs.Program.{Program, Bounds}
use Rattle.dictionaries.proofs.Ends.{ends_prove}
use Rattle.dictionaries.proofs.Reaching.{reached_on_the_way}
use Rattle.linear_models.specs.Box.{Box}
use Rattle.linear_models.specs.Model.{Model, IsValid, maximised, is_whole_at}
use Rattle.linear_models.proofs.Permits.{points_are_permitted}
use Rattle.opt_certificate.specs.Certificate.{Tree, ProvesBest, ProvesEmpty, Proves, ProvesTarget, Certifies}
use Rattle.opt_certificate.specs.Certificate as certificate
use Rattle.opt_certificate.specs.Checks.{Checked}
use Rattle.opt_certificate.specs.Clashes.{IsClash}
use Rattle.opt_certificate.specs.declared.checking.CheckStop.{CheckStop}
use Rattle.searches.specs.Trees.{Node, lower, upper, Found, Way, Ending, in_parts, in_clash, in_leaf, box_along}
use Rattle.searches.specs.Trails.{State, is_plain, box_of, node_program, HasNoMarks, HasNoObjective, IsOver, none_waits, one_is_enough, unbounded_at_once}
use Rattle.searches.specs.Answers.{Answer, Says, best_found, none_found, none_in_second, way_from_found, way_at_once, value_at, IsTrueOf}
use Rattle.searches.proofs.Boxes.{along-append}
use Rattle.searches.proofs.Members.{In, in_place}
use Rattle.searches.proofs.Ends.{node_regular}
use Rattle.searches.proofs.Trails.{answers_are_true}
use Rattle.search_certificates.specs.Nodes.{IsOpened, IsThere, IsLastRoot, IsSplitIn}
use Rattle.search_certificates.specs.Leaves.{GivesBest, IsEmptyLeaf, IsBestLeaf, IsWaitingLeaf}
use Rattle.search_certificates.specs.Trees.{IsTreeAt, IsLastTree, IsTreeOf, claim_of_answer}
use Rattle.search_certificates.specs.Laws.{SearchTreesCertify, SearchTreesAreNotRefused}
use Rattle.search_certificates.proofs.LeafProofs.{bounds_more, best_few, empty_few, empty_contradicts, best_bounds, best_or_empty, contradicts_anyway, zero_bounds}
use Rattle.search_certificates.proofs.Kept.{nodes_of, record_of, is_in, in_there, IsSettled, at_best, at_empty, at_clash, at_parts, IsKept, last_is_first}
use Rattle.search_certificates.proofs.Keeping.{SomeKept, rest_kept}
use Rattle.search_certificates.proofs.OneNode.{IsNumbered, trail_numbered, one_node}
use Rattle.search_certificates.proofs.OneTree.{tree_there}

-- ---- leaves
empty_proves : (m : Model) (s : State) (n : Node) (ys : List ℚ) → IsValid m → IsEmptyLeaf m s n ys → ProvesEmpty m (box_of m n) ys
empty_proves m s n ys v (o, g) =
    (empty_few (node_program m s.way n) ys g, contradicts_anyway m (box_of m n) (is_plain s.way) ys (empty_contradicts (node_program m s.way n) ys (node_regular m s.way n v) g))

-- a node that was closed at a best end: a point is found, and its value bounds the node's objective
record BoundsFound (m : Model) (s : State) (n : Node) (ys : List ℚ) : Type 0 where
  pub found : Found
  pub is_found : s.found ≡ Some found
  pub bounds : Bounds (node_program m s.way n) ys found.value

closed_bounds : (m : Model) (s : State) (n : Node) (k : ℕ) (ys : List ℚ) (ns : List Node) → IsValid m → GivesBest (node_program m s.way n) ys → IsSettled m s.way s.found ns n k in_leaf → BoundsFound m s n ys
closed_bounds m s n k ys ns v g (at_best d f l b e q) =
    let p = node_program m s.way n in
    let r = node_regular m s.way n v in
    record { found = f; is_found = e; bounds = best_bounds p ys _ f.value r g (bounds_more p _ _ _ q (ends_prove.best p d r (reached_on_the_way p d r (k, l)) b).bounds) }
closed_bounds m s n k ys ns v g (at_empty d l b) =
    let p = node_program m s.way n in
    let r = node_regular m s.way n v in
    absurd (best_or_empty p ys _ r g (ends_prove.infeasible p d r (reached_on_the_way p d r (k, l)) b))

clash_is : (m : Model) (s : State) (n : Node) (k i j : ℕ) (ns : List Node) → IsSettled m s.way s.found ns n k (in_clash i j) → IsClash m.groups (box_of m n) i j
clash_is m s n k i j ns (at_clash x y c) = c

-- ---- splits
-- the decision is to be whole, and the parts are later nodes
record IsTrueSplit (m : Model) (j : ℕ) (n a b : Node) : Type 0 where
  marked : is_whole_at m.whole j ≡ true
  low : n.number < a.number
  high : n.number < b.number

split_is : (m : Model) (s : State) (n a b : Node) (k j : ℕ) (f : ℤ) (e : Ending) → IsNumbered s → IsSplitIn s n j f a b → IsThere s a → e ≡ in_parts a.number → IsSettled m s.way s.found (nodes_of s) n k e → IsTrueSplit m j n a b
split_is m s n a b k j f e h x t q (at_best d g l r u w) = absurd cc
split_is m s n a b k j f e h x t q (at_empty d l r) = absurd cc
split_is m s n a b k j f e h x t q (at_clash i u r) = absurd cc
split_is m s n a b k j f e h x t q (at_parts i g c d marked y z next before p r) =
    let number : c.number ≡ a.number = same c.number a.number q in
    let one : c ≡ a = one_node s c a h (in_there s c y) t number in
    let path : n.path ++ lower i g ∷ [] ≡ n.path ++ lower j f ∷ [] = sym p ∙ ap (λ (n : Node). n.path) one ∙ x.low_path in
    let decision : i ≡ j = parts (Rattle.search_certificates.proofs.OneNode.one_part n.path (lower i g) (lower j f) path) in
    let after = x.next in
    record { marked = subst (λ (j : ℕ). is_whole_at m.whole j ≡ true) decision marked; low = omega (arith, before, number); high = omega (arith, before, number, after) }
  where
    same : (k l : ℕ) → in_parts k ≡ in_parts l → k ≡ l
    same k l e = cc

    parts : lower i g ≡ lower j f → i ≡ j
    parts e = cc

-- ---- trees
abbrev BestProve : Model → State → ℕ → Option ℚ → Type 0
BestProve m s first target = (n : Node) (ys : List ℚ) → first ≤ n.number → IsBestLeaf m s n ys ⊎ IsWaitingLeaf s n ys → ProvesBest m target (box_of m n) ys

tree_proves : (m : Model) (s : State) (first : ℕ) (target : Option ℚ) (n : Node) (t : Tree) → IsKept m s first → IsNumbered s → IsValid m → BestProve m s first target → first ≤ n.number → IsTreeAt m s n t
    → Proves m target (box_of m n) t
tree_proves m s first target n (certificate.split j f low high) h u v b l (x, y, z, t) =
    let q = split_is m s n x y z.opened.pivots j f (in_parts x.number) u z (tree_there m s x low t.0) refl (h.settled (record_of z.opened) (is_in s n (in_parts x.number) z.opened) l) in
    let c = q.low in
    let d = q.high in (
      q.marked,
      subst (λ (box : Box). Proves m target box low) (ap (box_along m.bounds) z.low_path ∙ along-append m.bounds n.path (lower j f)) (tree_proves m s first target x low h u v b (omega (arith, l, c)) t.0),
      subst (λ (box : Box). Proves m target box high) (ap (box_along m.bounds) z.high_path ∙ along-append m.bounds n.path (upper j f)) (tree_proves m s first target y high h u v b (omega (arith, l, d)) t.1),
    )
tree_proves m s first target n (certificate.best ys) h u v b l t = b n ys l t
tree_proves m s first target n (certificate.empty ys) h u v b l t = empty_proves m s n ys v t
tree_proves m s first target n (certificate.clash i j) h u v b l t = clash_is m s n t.pivots i j (nodes_of s) (h.settled (record_of t) (is_in s n (in_clash i j) t) l)

last_proves : (m : Model) (s : State) (target : Option ℚ) (tree : Option Tree) → IsValid m → IsNumbered s → (h : SomeKept m s) → BestProve m s h.first target
    → ((t : Tree) × (tree ≡ Some t) × IsLastTree m s t) → ProvesTarget m target tree
last_proves m s target tree v u h b (t, e, (r, l, k)) =
    let q = last_is_first m s h.first r h.kept l in
    (t, e, subst (λ (box : Box). Proves m target box t) (ap (box_along m.bounds) l.path) (tree_proves m s h.first target r t h.kept u v b (omega (arith, q)) k))

-- ---- what waits where a search is over
nothing_waits : (s : State) (n : Node) → s.waiting ≡ [] → In s.waiting n → ⊥
nothing_waits s n e i = subst (λ (ns : List Node). In ns n) e i

waits_without_objective : (m : Model) (s : State) (n : Node) → IsOver m s → s.way ≡ None → In s.waiting n → HasNoObjective m
waits_without_objective m s n (none_waits e) w i = absurd (nothing_waits s n e i)
waits_without_objective m s n (one_is_enough f (inl t) q) w i = absurd (let r = ap is_plain w in let u : true ≡ false = sym t ∙ r in cc)
waits_without_objective m s n (one_is_enough f (inr t) q) w i = t
waits_without_objective m s n (unbounded_at_once y t q) w i = absurd cc

waits_without_point : (m : Model) (s : State) (n : Node) → IsOver m s → s.found ≡ None → (HasNoMarks m → (w : Way) → s.way ≡ Some w → ⊥) → In s.waiting n → ⊥
waits_without_point m s n (none_waits e) f k i = nothing_waits s n e i
waits_without_point m s n (one_is_enough g t q) f k i = absurd cc
waits_without_point m s n (unbounded_at_once w t q) f k i = k t w q

-- a node that waits then is bounded by no row
waiting_best : (m : Model) (s : State) (f : Found) (n : Node) (ys : List ℚ) → IsOver m s → s.way ≡ None → IsWaitingLeaf s n ys → ProvesBest m (Some (value_at m f.point)) (box_of m n) ys
waiting_best m s f n ys o w (c, g) =
    subst (λ (ys : List ℚ). ProvesBest m (Some (value_at m f.point)) (box_of m n) ys) (sym g)
    (omega arith, zero_bounds _ _ _ (maximised m.goal m.objective) f.point (waits_without_objective m s n o w (in_place s.waiting c.0 n c.1)))

-- ---- answers
best_leaves : (m : Model) (s : State) (f : Found) (first : ℕ) → IsValid m → IsKept m s first → IsOver m s → s.way ≡ None → s.found ≡ Some f → value_at m f.point ≡ f.value
    → BestProve m s first (Some (value_at m f.point))
best_leaves m s f first v h o w e q n ys l (inl (c, g)) =
    let k = closed_bounds m s n c.pivots ys (nodes_of s) v g (h.settled (record_of c) (is_in s n in_leaf c) l) in
    let z : Bounds (node_program m None n) ys k.found.value = subst (λ (y : Option Way). Bounds (node_program m y n) ys k.found.value) w k.bounds in
    (best_few (node_program m s.way n) ys g, subst (Bounds (node_program m None n) ys) (ap (λ (f : Found). f.value) (same k.found f (sym k.is_found ∙ e)) ∙ sym q) z)
  where
    same : (f g : Found) → Some f ≡ Some g → f ≡ g
    same f g e = cc
best_leaves m s f first v h o w e q n ys l (inr t) = waiting_best m s f n ys o w t

no_best_leaves : (m : Model) (s : State) (first : ℕ) → IsValid m → IsKept m s first → IsOver m s → s.found ≡ None → (HasNoMarks m → (w : Way) → s.way ≡ Some w → ⊥) → BestProve m s first None
no_best_leaves m s first v h o f k n ys l (inl (c, g)) = let b = closed_bounds m s n c.pivots ys (nodes_of s) v g (h.settled (record_of c) (is_in s n in_leaf c) l) in absurd (none b.found (sym f ∙ b.is_found))
  where
    none : (f : Found) → None ≡ Some f → ⊥
    none f e = cc
no_best_leaves m s first v h o f k n ys l (inr (c, g)) = waits_without_point m s n o f k (in_place s.waiting c.0 n c.1)

certifies : (m : Model) (s : State) (a : Answer) (tree : Option Tree) → IsValid m → IsNumbered s → SomeKept m s → IsOver m s → Says m s a → IsTreeOf m s a tree → IsTrueOf m a → Certifies m tree (claim_of_answer a)
certifies m s a tree v u h o (best_found f w e) t r =
    ((points_are_permitted m f.point).0 r.0.permitted, last_proves m s (Some (value_at m f.point)) tree v u h (best_leaves m s f h.first v h.kept o w e r.1) t)
certifies m s a tree v u h o (none_found w e) t r = last_proves m s None tree v u h (no_best_leaves m s h.first v h.kept o e (λ k y q. absurd cc)) t
certifies m s a tree v u h o (none_in_second w q e k) t r = last_proves m s None tree v u h (no_best_leaves m s h.first v h.kept o e (λ x y z. k x)) t
certifies m s a tree v u h o (way_from_found w f q e) t r = (r.0, r.1.0)
certifies m s a tree v u h o (way_at_once w k q e) t r = (r.0, r.1.0)

pub search_trees_certify : SearchTreesCertify
search_trees_certify m s a tree v h =
    certifies m s a tree v (trail_numbered m h.rule h.units s h.trail) (rest_kept m h.rule h.units s v h.trail h.at_rest) h.over h.says h.is_tree (answers_are_true m h.rule h.units s a v h.trail h.at_rest h.over h.says)

pub search_trees_are_not_refused : SearchTreesAreNotRefused
search_trees_are_not_refused m s a tree r v h c e =
    (subst (λ (r : Result Rattle.std.specs.Prelude.Bool CheckStop). Checked m tree (claim_of_answer a) r) e c) (search_trees_certify m s a tree v h)
