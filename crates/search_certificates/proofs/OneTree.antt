-- And one alone: each run has one end, and each node has ended in one way.
use Rattle.std.proofs.Common.{◌≡◌, ℕ, suc, refl, sym, ap, ap₂, ◌∙◌, subst, List, [], ◌∷◌, ◌++◌, arith, inl, inr, ◌⊎◌}
use Rattle.std.specs.Prelude.{Some, None}
use Rattle.fractions.specs.Rational.{ℚ}
use Rattle.linear_programs.specs.Program.{Program, IsRegular}
use Rattle.dictionaries.specs.Dictionary.{Dictionary, pivoted, first_of_program}
use Rattle.dictionaries.specs.Reading.{multipliers}
use Rattle.dictionaries.specs.Bland as bland
use Rattle.dictionaries.specs.Bland.{HasEnded}
use Rattle.dictionaries.specs.Run.{Follow, last_of, IsReached, IsOnTheWay}
use Rattle.dictionaries.proofs.Runs.{first_on_the_way, step_on_the_way}
use Rattle.dictionaries.proofs.Determined.{next_is_determined}
use Rattle.dictionaries.proofs.Ends.{end_is_final}
use Rattle.linear_models.specs.Model.{Model, IsValid}
use Rattle.opt_certificate.specs.Certificate.{Tree, split, best, empty, clash}
use Rattle.searches.specs.Trees.{Node, Part, lower, upper, Ending, in_parts, in_clash, in_leaf}
use Rattle.searches.specs.Trails.{State, node_program}
use Rattle.searches.specs.Answers.{Answer, optimal, infeasible, unbounded}
use Rattle.searches.proofs.Ends.{node_regular}
use Rattle.search_certificates.specs.Nodes.{IsOpened, IsWaiting, IsThere, IsSplitIn}
use Rattle.search_certificates.specs.Leaves.{GivesBest, GivesEmpty, without_last_zeros, IsBestLeaf, IsWaitingLeaf}
use Rattle.search_certificates.specs.Trees.{IsTreeAt, IsLastTree, IsTreeOf}
use Rattle.search_certificates.specs.Laws.{OneSearchTree}
use Rattle.search_certificates.proofs.LeafProofs.{best_or_empty, empty_contradicts}
use Rattle.search_certificates.proofs.OneNode.{IsNumbered, trail_numbered, not_both, one_node, one_ending, one_part}

-- ---- the end of a run
follow_end : (p : Program) (d : Dictionary) (a b : List Dictionary) → IsOnTheWay p d → Follow d a → Follow d b → HasEnded (last_of d a) → HasEnded (last_of d b) → last_of d a ≡ last_of d b
follow_end p d [] [] w f g h k = refl
follow_end p d [] (y ∷ b) w f g h k = absurd (end_is_final p d g.0.row g.0.column w h g.0.is_next)
follow_end p d (x ∷ a) [] w f g h k = absurd (end_is_final p d f.0.row f.0.column w k f.0.is_next)
follow_end p d (x ∷ a) (y ∷ b) w f g h k =
    let q = next_is_determined p d f.0.row f.0.column g.0.row g.0.column w f.0.is_next g.0.is_next in
    let e : x ≡ y = f.0.after ∙ ap₂ (pivoted d) q.0 q.1 ∙ sym g.0.after in
    follow_end p x a b (step_on_the_way p d x w f.0) f.1 (subst (λ y. Follow y b) (sym e) g.1) h (subst (λ y. HasEnded (last_of y b)) (sym e) k) ∙ ap (λ y. last_of y b) e

pub one_end : (p : Program) (d e : Dictionary) → IsRegular p → IsReached p d → HasEnded d → IsReached p e → HasEnded e → d ≡ e
one_end p d e g r h k i =
    sym r.1.end ∙ follow_end p (first_of_program p) r.1.later k.1.later (first_on_the_way p g) r.1.follow k.1.follow (subst HasEnded (sym r.1.end) h) (subst HasEnded (sym k.1.end) i) ∙ k.1.end

pub one_best : (p : Program) (ys zs : List ℚ) → IsRegular p → GivesBest p ys → GivesBest p zs → ys ≡ zs
one_best p ys zs g h k =
    let e = one_end p h.dictionary k.dictionary g h.reached (bland.best h.ended) k.reached (bland.best k.ended) in
    h.are ∙ ap (λ (d : Dictionary). without_last_zeros (multipliers p d.nonbasic d.objective)) e ∙ sym k.are

pub one_empty : (p : Program) (ys zs : List ℚ) → IsRegular p → GivesEmpty p ys → GivesEmpty p zs → ys ≡ zs
one_empty p ys zs g h k =
    let e = one_end p h.dictionary k.dictionary g h.reached (bland.infeasible h.ended) k.reached (bland.infeasible k.ended) in
    h.are ∙ ap (λ (d : Dictionary). without_last_zeros (multipliers p d.nonbasic d.auxiliary)) e ∙ sym k.are

-- ---- nodes
-- a node with a tree was opened or waits
pub tree_there : (m : Model) (s : State) (n : Node) (t : Tree) → IsTreeAt m s n t → IsThere s n
tree_there m s n (split j f low high) (a, b, x, y) = inl (in_parts a.number, x.opened)
tree_there m s n (best ys) (inl x) = inl (in_leaf, x.0)
tree_there m s n (best ys) (inr x) = inr x.0
tree_there m s n (empty ys) x = inl (in_leaf, x.0)
tree_there m s n (clash i j) x = inl (in_clash i j, x)

-- the parts of a node are two nodes
record AreParts (j i : ℕ) (f g : Rattle.std.specs.Prelude.ℤ) (a b c d : Node) : Type 0 where
  decision : j ≡ i
  floor : f ≡ g
  low : a ≡ c
  high : b ≡ d

one_split : (s : State) (n : Node) (j i : ℕ) (f g : Rattle.std.specs.Prelude.ℤ) (a b c d : Node) → IsNumbered s → IsSplitIn s n j f a b → IsSplitIn s n i g c d → IsThere s a → IsThere s b → IsThere s c → IsThere s d
    → AreParts j i f g a b c d
one_split s n j i f g a b c d h x y ta tb tc td =
    let e : a.number ≡ c.number = number (one_ending s n (in_parts a.number) (in_parts c.number) h x.opened y.opened) in
    let low : a ≡ c = one_node s a c h ta tc e in
    let high : b ≡ d = one_node s b d h tb td (x.next ∙ ap suc e ∙ sym y.next) in
    let part = one_part n.path (lower j f) (lower i g) (sym x.low_path ∙ ap (λ (n : Node). n.path) low ∙ y.low_path) in
    record { decision = decisions part; floor = floors part; low = low; high = high }
  where
    number : {k l : ℕ} → in_parts k ≡ in_parts l → k ≡ l
    number e = cc

    decisions : lower j f ≡ lower i g → j ≡ i
    decisions e = cc

    floors : lower j f ≡ lower i g → f ≡ g
    floors e = cc

-- ---- trees
one_at : (m : Model) (s : State) → IsValid m → IsNumbered s → (n : Node) (t u : Tree) → IsTreeAt m s n t → IsTreeAt m s n u → t ≡ u
one_at m s v h = cases
  where
    differ : (n : Node) (e f : Ending) → (e ≡ f → ⊥) → IsOpened s n e → IsOpened s n f → ⊥
    differ n e f k o p = k (one_ending s n e f h o p)

    parts_leaf : (k : ℕ) → in_parts k ≡ in_leaf → ⊥
    parts_leaf k e = cc

    parts_clash : (k i j : ℕ) → in_parts k ≡ in_clash i j → ⊥
    parts_clash k i j e = cc

    clash_leaf : (i j : ℕ) → in_clash i j ≡ in_leaf → ⊥
    clash_leaf i j e = cc

    one_clash : (i j a b : ℕ) → in_clash i j ≡ in_clash a b → clash i j ≡ clash a b
    one_clash i j a b e = cc

    -- a node that isn't a leaf has no leaf
    not_best : (n : Node) (e : Ending) (ys : List ℚ) → (e ≡ in_leaf → ⊥) → IsOpened s n e → IsBestLeaf m s n ys ⊎ IsWaitingLeaf s n ys → ⊥
    not_best n e ys k o (inl x) = differ n e in_leaf k o x.0
    not_best n e ys k o (inr x) = not_both s n n e h o x.0 refl

    regular : (n : Node) → IsRegular (node_program m s.way n)
    regular n = node_regular m s.way n v

    best_empty : (n : Node) (ys zs : List ℚ) → IsBestLeaf m s n ys ⊎ IsWaitingLeaf s n ys → IsOpened s n in_leaf → GivesEmpty (node_program m s.way n) zs → ⊥
    best_empty n ys zs (inl x) o g = best_or_empty (node_program m s.way n) ys zs (regular n) x.1 (empty_contradicts (node_program m s.way n) zs (regular n) g)
    best_empty n ys zs (inr x) o g = not_both s n n in_leaf h o x.0 refl

    two_best : (n : Node) (ys zs : List ℚ) → IsBestLeaf m s n ys ⊎ IsWaitingLeaf s n ys → IsBestLeaf m s n zs ⊎ IsWaitingLeaf s n zs → ys ≡ zs
    two_best n ys zs (inl x) (inl y) = one_best (node_program m s.way n) ys zs (regular n) x.1 y.1
    two_best n ys zs (inl x) (inr y) = absurd (not_both s n n in_leaf h x.0 y.0 refl)
    two_best n ys zs (inr x) (inl y) = absurd (not_both s n n in_leaf h y.0 x.0 refl)
    two_best n ys zs (inr x) (inr y) = x.1 ∙ sym y.1

    cases : (n : Node) (t u : Tree) → IsTreeAt m s n t → IsTreeAt m s n u → t ≡ u
    cases n (split j f low high) (split i g low' high') (a, b, x, y) (c, d, z, w) =
        let q = one_split s n j i f g a b c d h x z (tree_there m s a low y.0) (tree_there m s b high y.1) (tree_there m s c low' w.0) (tree_there m s d high' w.1) in
        let e : low ≡ low' = cases a low low' y.0 (subst (λ (n : Node). IsTreeAt m s n low') (sym q.low) w.0) in
        let k : high ≡ high' = cases b high high' y.1 (subst (λ (n : Node). IsTreeAt m s n high') (sym q.high) w.1) in
        let r : j ≡ i = q.decision in let o : f ≡ g = q.floor in cc
    cases n (split j f low high) (best ys) (a, b, x, y) u = absurd (not_best n (in_parts a.number) ys (parts_leaf a.number) x.opened u)
    cases n (split j f low high) (empty ys) (a, b, x, y) u = absurd (differ n (in_parts a.number) in_leaf (parts_leaf a.number) x.opened u.0)
    cases n (split j f low high) (clash i k) (a, b, x, y) u = absurd (differ n (in_parts a.number) (in_clash i k) (parts_clash a.number i k) x.opened u)
    cases n (best ys) (split j f low high) t (a, b, x, y) = absurd (not_best n (in_parts a.number) ys (parts_leaf a.number) x.opened t)
    cases n (best ys) (best zs) t u = ap best (two_best n ys zs t u)
    cases n (best ys) (empty zs) t u = absurd (best_empty n ys zs t u.0 u.1)
    cases n (best ys) (clash i j) t u = absurd (not_best n (in_clash i j) ys (clash_leaf i j) u t)
    cases n (empty ys) (split j f low high) t (a, b, x, y) = absurd (differ n (in_parts a.number) in_leaf (parts_leaf a.number) x.opened t.0)
    cases n (empty ys) (best zs) t u = absurd (best_empty n zs ys u t.0 t.1)
    cases n (empty ys) (empty zs) t u = ap empty (one_empty (node_program m s.way n) ys zs (regular n) t.1 u.1)
    cases n (empty ys) (clash i j) t u = absurd (differ n (in_clash i j) in_leaf (clash_leaf i j) u t.0)
    cases n (clash i j) (split k f low high) t (a, b, x, y) = absurd (differ n (in_parts a.number) (in_clash i j) (parts_clash a.number i j) x.opened t)
    cases n (clash i j) (best ys) t u = absurd (not_best n (in_clash i j) ys (clash_leaf i j) t u)
    cases n (clash i j) (empty ys) t u = absurd (differ n (in_clash i j) in_leaf (clash_leaf i j) t u.0)
    cases n (clash i j) (clash k l) t u = one_clash i j k l (one_ending s n (in_clash i j) (in_clash k l) h t u)

pub search_tree_is_one : OneSearchTree
search_tree_is_one m s a t u v h k = by_answer a h.is_tree k.is_tree
  where
    numbered : IsNumbered s
    numbered = trail_numbered m h.rule h.units s h.trail

    two : ((t' : Tree) × (t ≡ Some t') × IsLastTree m s t') → ((u' : Tree) × (u ≡ Some u') × IsLastTree m s u') → t ≡ u
    two (t', e, (r, i, x)) (u', f, (q, j, y)) =
        let a = j.last r i.there i.path in
        let b = i.last q j.there j.path in
        let same : r ≡ q = one_node s r q numbered i.there j.there (omega (arith, a, b)) in
        e ∙ ap Some (one_at m s v numbered r t' u' x (subst (λ (n : Node). IsTreeAt m s n u') (sym same) y)) ∙ sym f

    by_answer : (a : Answer) → IsTreeOf m s a t → IsTreeOf m s a u → t ≡ u
    by_answer (optimal x w) i j = two i j
    by_answer infeasible i j = two i j
    by_answer (unbounded x d) i j = i ∙ sym j
