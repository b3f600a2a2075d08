-- The nodes of a trail are nodes of true trees.
use Rattle.std.proofs.Common.{◌≡◌, ◌≢◌, ℕ, suc, ◌<◌, refl, sym, ap, ◌∙◌, subst, List, [], ◌∷◌, ◌++◌, arith, Bool, true, false, ◌⊎◌, inl, inr}
use Rattle.std.specs.Prelude.{Option, Some, None, pos, ◌+ℤ◌, ◌≤ℤ◌, ℤ}
use Rattle.std.specs.List.{AllByRecursion}
use Rattle.std.proofs.lemmas.Int.{ints}
use Rattle.std.proofs.lemmas.List.Elements.{All-from_recursion}
use Rattle.fractions.specs.Rational.{ℚ, ◌<ℚ◌, zero_ℚ}
use Rattle.fractions.specs.Vectors.{at}
use Rattle.fractions.specs.Floor.{floor_ℚ}
use Rattle.fractions.specs.Whole.{whole_ℚ}
use Rattle.fractions.proofs.Floor.{floor_is_greatest}
use Rattle.fractions.proofs.Order.{lt_of_le_of_ne, lt_irrefl}
use Rattle.fractions.proofs.Tests.{le_or_lt}
use Rattle.optimality.specs.Optimal.{IsWhole}
use Rattle.dictionaries.specs.Dictionary.{Dictionary, pivoted}
use Rattle.dictionaries.specs.Run.{IsOnTheWay}
use Rattle.dictionaries.proofs.Runs.{first_on_the_way, step_on_the_way}
use Rattle.dictionaries.proofs.Ends.{ends_prove}
use Rattle.linear_models.specs.Model.{Model, IsValid}
use Rattle.linear_models.specs.Standard.{standard, wanted, splits_of}
use Rattle.linear_models.specs.Laws.{IsBoxPoint}
use Rattle.linear_models.proofs.Forms.{dot-spread_terms}
use Rattle.linear_models.proofs.Regular.{wanted_is}
use Rattle.affine_forms.specs.Forms.{sum_at}
use Rattle.affine_forms.specs.Assigned.{assigned}
use Rattle.opt_certificate.specs.Certificate.{IsWayOut}
use Rattle.opt_certificate.proofs.Multiples.{whole_number}
use Rattle.node_pick.specs.Rules.{Rule}
use Rattle.searches.specs.Trees.{Node, End, empty, beaten, whole, split, clash, endless, Part, lower, upper, root, new_nodes, Way, way_at, in_leaf, ending_at}
use Rattle.searches.specs.Trails.{State, Opened, Work, start, without_place, is_plain, box_of, node_program, Outcome, no_point, best, no_bound, Finishes, at_best, without_bound, ComesTo, is_split, is_parted, Becomes, goes_on, ends, ended, Grows, opens, pivots, stays, grows, SearchUnit, Trail}
use Rattle.searches.specs.TrueTrees.{SplitTree, leaf, IsBasicBest, IsTrueSplit, split_between, split_alike, IsTrueTree, HasNode, IsNodeOf, TreesAreTrue}
use Rattle.searches.proofs.Members.{In, in_cases, in_place, in_removed}
use Rattle.searches.proofs.Numbers.{numbers_rise}
use Rattle.searches.proofs.Once.{others_differ, no_node_twice, IsApart}
use Rattle.searches.proofs.Splitting.{IsLeaf, grown, leaf_is_node, node_stays, leaf_stays, new_lower, new_upper, none_below, parts_differ, grown_true, with_tree, changed, each_tree}
use Rattle.searches.proofs.AlikeSplits.{alike_split}
use Rattle.searches.proofs.GroupBounds.{split_bounds}
use Rattle.searches.proofs.Ends.{all_whole, node_box, node_regular}
use Rattle.searches.proofs.Trails.{HoldsWith, trail_stands}

-- ---- a number that isn't whole lies strictly between its floor and the next
floor_below : (x : ℚ) → ¬ (IsWhole x) → whole_ℚ (floor_ℚ x) <ℚ x
floor_below x n = lt_of_le_of_ne _ _ (floor_is_greatest x).not_above (λ e. n (subst IsWhole e (whole_number (floor_ℚ x))))

never_less : (n : ℤ) → (n +ℤ pos 1) ≤ℤ n → ⊥
never_less n = grind (arith, ints)

next_above : (x : ℚ) → x <ℚ whole_ℚ (floor_ℚ x +ℤ pos 1)
next_above x = elim (le_or_lt (whole_ℚ (floor_ℚ x +ℤ pos 1)) x) [
  | inl h ↦ absurd (never_less (floor_ℚ x) ((floor_is_greatest x).greatest _ h))
  | inr h ↦ h
]

-- ---- with the objective 0 no program is unbounded
zero_wanted : (m : Model) (plain : Bool) (a : List ℚ) → plain ≡ true → zero_ℚ <ℚ sum_at (assigned a) (wanted m plain).terms → ⊥
zero_wanted m true a e h = lt_irrefl zero_ℚ h
zero_wanted m false a e h = cc

nothing_improves : (m : Model) (way : Option Way) (node : Node) (d : Dictionary) (x u : List ℚ) → IsValid m → IsOnTheWay (node_program m way node) d
    → Finishes (node_program m way node) d (no_bound x u) → is_plain way ≡ true → ⊥
nothing_improves m way node d x u v w (without_bound c e) p =
    let o = (ends_prove.unbounded (node_program m way node) d c (node_regular m way node v) w e).is_way_out in
    let s = subst (λ t. zero_ℚ <ℚ t) (dot-spread_terms (splits_of (box_of m node)) (wanted m (is_plain way)).terms _ (wanted_is m (is_plain way) v).rise) o.improves in
    zero_wanted m (is_plain way) _ p s

-- ---- states
-- the nodes that wait are leaves, each another one; as long as there is no way out the second tree isn't split
pub record AreTrue (m : Model) (s : State) (trees : Bool → SplitTree) : Type 0 where
  pub are_true : (plain : Bool) → IsTrueTree m plain m.bounds (trees plain)
  pub opened : AllByRecursion (λ (o : Opened). IsNodeOf trees s.way o.node.path) s.opened
  pub waiting : (n : Node) → In s.waiting n → IsLeaf (trees (is_plain s.way)) n.path
  pub apart : (n k : Node) → In s.waiting n → In s.waiting k → n.number ≢ k.number → n.path ≢ k.path
  pub none_yet : is_plain s.way ≡ false → trees true ≡ leaf

-- the same, with a node that is worked on
pub record AreTrueWith (m : Model) (s : State) (trees : Bool → SplitTree) (node : Node) : Type 0 where
  pub state : AreTrue m s trees
  pub is_leaf : IsLeaf (trees (is_plain s.way)) node.path
  pub differs : (n : Node) → In s.waiting n → node.path ≢ n.path

abbrev pub AreTrueNow : Model → State → (Bool → SplitTree) → Option Work → Type 0
AreTrueNow m s trees None = AreTrue m s trees
AreTrueNow m s trees (Some w) = AreTrueWith m s trees w.node

abbrev pub SomeTrees : Model → State → Type 0
SomeTrees m s = (trees : Bool → SplitTree) × AreTrueNow m s trees s.work

-- a node of the tree at hand
at_hand : (trees : Bool → SplitTree) (way : Option Way) (ps : List Part) → HasNode (trees (is_plain way)) ps → IsNodeOf trees way ps
at_hand trees None ps h = inl h
at_hand trees (Some w) ps h = inr (refl, h)

more_opened : (trees trees' : Bool → SplitTree) (way way' : Option Way) (os : List Opened) → ((b : Bool) (ps : List Part) → HasNode (trees b) ps → HasNode (trees' b) ps)
    → (is_plain way ≡ true → is_plain way' ≡ true) → AllByRecursion (λ (o : Opened). IsNodeOf trees way o.node.path) os → AllByRecursion (λ (o : Opened). IsNodeOf trees' way' o.node.path) os
more_opened trees trees' way way' [] f g h = tt
more_opened trees trees' way way' (o ∷ os) f g h = (one h.0, more_opened trees trees' way way' os f g h.1)
  where
    one : IsNodeOf trees way o.node.path → IsNodeOf trees' way' o.node.path
    one (inl k) = inl (f false _ k)
    one (inr k) = inr (g k.0, f true _ k.1)

-- ---- ends
closed : (m : Model) (s : State) (node : Node) (k : ℕ) (e : End) (trees : Bool → SplitTree) → AreTrueWith m s trees node → way_at e s.way ≡ s.way
    → ((n : Node) → In (ended s node k e).waiting n → In s.waiting n) → AreTrue m (ended s node k e) trees
closed m s node k e trees h w f = record {
  are_true = h.state.are_true;
  opened = subst (λ (y : Option Way). AllByRecursion (λ (o : Opened). IsNodeOf trees y o.node.path) (record { node = node; pivots = k; ending = ending_at s.count e } ∷ s.opened)) (sym w) (at_hand trees s.way node.path (leaf_is_node _ node.path h.is_leaf), h.state.opened);
  waiting = λ n i. subst (λ (y : Option Way). IsLeaf (trees (is_plain y)) n.path) (sym w) (h.state.waiting n (f n i));
  apart = λ n j i l. h.state.apart n j (f n i) (f j l);
  none_yet = λ q. h.state.none_yet (sym (ap is_plain w) ∙ q);
}

only_old : (ns : List Node) (n : Node) → In ns n ⊎ In [] n → In ns n
only_old ns n (inl i) = i
only_old ns n (inr i) = absurd i

not_true : (way : Option Way) → (is_plain way ≡ true → ⊥) → is_plain way ≡ false
not_true None f = refl
not_true (Some w) f = absurd (f refl)

second : (m : Model) (s : State) (node : Node) (k : ℕ) (x u : List ℚ) (trees : Bool → SplitTree) → AreTrueWith m s trees node → is_plain s.way ≡ false
    → AreTrue m (ended s node k (endless x u)) trees
second m s node k x u trees h p = record {
  are_true = h.state.are_true;
  opened = (more_opened trees trees s.way (Some record { point = x; direction = u }) (record { node = node; pivots = k; ending = in_leaf } ∷ s.opened) (λ b ps z. z) (λ z. refl) (at_hand trees s.way node.path (leaf_is_node _ node.path h.is_leaf), h.state.opened));
  waiting = λ n i. fresh n i;
  apart = λ n j i l z. absurd (z (ap (λ (n : Node). n.number) (one n i ∙ sym (one j l))));
  none_yet = λ q. absurd cc;
}
  where
    one : (n : Node) → In (root s.count ∷ []) n → n ≡ root s.count
    one n (inl q) = sym q
    one n (inr i) = absurd i

    fresh : (n : Node) → In (root s.count ∷ []) n → IsLeaf (trees true) n.path
    fresh n i = subst (λ (t : SplitTree). IsLeaf t n.path) (sym (h.state.none_yet p)) (subst (λ (n : Node). IsLeaf leaf n.path) (sym (one n i)) tt)

split_one : (m : Model) (s : State) (node : Node) (k : ℕ) (j : ℕ) (f : ℤ) (v : ℚ) (trees : Bool → SplitTree) → AreTrueWith m s trees node → ((n : Node) → In s.waiting n → n.number < s.count)
    → IsTrueSplit m (is_plain s.way) (box_of m node) j f
    → AreTrue m (ended s node k (split j f v)) (with_tree (is_plain s.way) (grown (trees (is_plain s.way)) node.path j f) trees)
split_one m s node k j f v trees h below sp = record {
  are_true = each_tree (λ (b : Bool) (t : SplitTree). IsTrueTree m b m.bounds t) plain new trees (grown_true m plain m.bounds (trees plain) node.path j f (h.state.are_true plain) h.is_leaf sp) h.state.are_true;
  opened = (at_hand trees' s.way node.path (stays_node plain node.path (leaf_is_node _ node.path h.is_leaf)), more_opened trees trees' s.way s.way s.opened stays_node (λ z. z) h.state.opened);
  waiting = λ n i. leaves n (in_cases s.waiting (new_nodes s.count node (split j f v)) n i);
  apart = λ n l i z. differ n l (in_cases s.waiting (new_nodes s.count node (split j f v)) n i) (in_cases s.waiting (new_nodes s.count node (split j f v)) l z);
  none_yet = λ q. other q (h.state.none_yet q);
}
  where
    plain : Bool
    plain = is_plain s.way

    new : SplitTree
    new = grown (trees plain) node.path j f

    trees' : Bool → SplitTree
    trees' = with_tree plain new trees

    stays_node : (b : Bool) (ps : List Part) → HasNode (trees b) ps → HasNode (trees' b) ps
    stays_node b ps z = each_tree (λ (b : Bool) (t : SplitTree). HasNode (trees b) ps → HasNode t ps) plain new trees (node_stays (trees plain) node.path ps j f) (λ b z. z) b z

    other : plain ≡ false → trees true ≡ leaf → trees' true ≡ leaf
    other q e = ap (λ b. with_tree b new trees true) q ∙ e

    of_new : (ps : List Part) → IsLeaf new ps → IsLeaf (trees' plain) ps
    of_new ps l = subst (λ (t : SplitTree). IsLeaf t ps) (sym (changed plain new trees)) l

    leaves : (n : Node) → In s.waiting n ⊎ In (new_nodes s.count node (split j f v)) n → IsLeaf (trees' plain) n.path
    leaves n (inl i) = of_new n.path (leaf_stays (trees plain) node.path n.path j f h.is_leaf (h.state.waiting n i) (h.differs n i))
    leaves n (inr (inl e)) = subst (λ (u : Node). IsLeaf (trees' plain) u.path) e (of_new _ (new_lower (trees plain) node.path j f h.is_leaf))
    leaves n (inr (inr (inl e))) = subst (λ (u : Node). IsLeaf (trees' plain) u.path) e (of_new _ (new_upper (trees plain) node.path j f h.is_leaf))
    leaves n (inr (inr (inr i))) = absurd i

    -- an old node isn't a part of this one
    old_new : (n l : Node) (p : Part) → In s.waiting n → node.path ++ p ∷ [] ≡ l.path → n.path ≢ l.path
    old_new n l p i e q = none_below (trees plain) node.path p h.is_leaf (subst (λ (ps : List Part). IsLeaf (trees plain) ps) (q ∙ sym e) (h.state.waiting n i))

    path_is : (u n : Node) → u ≡ n → u.path ≡ n.path
    path_is u n e = ap (λ (n : Node). n.path) e

    differ : (n l : Node) → In s.waiting n ⊎ In (new_nodes s.count node (split j f v)) n → In s.waiting l ⊎ In (new_nodes s.count node (split j f v)) l → n.number ≢ l.number → n.path ≢ l.path
    differ n l (inl i) (inl z) d = h.state.apart n l i z d
    differ n l (inl i) (inr (inl e)) d = old_new n l (lower j f) i (path_is _ l e)
    differ n l (inl i) (inr (inr (inl e))) d = old_new n l (upper j f) i (path_is _ l e)
    differ n l (inl i) (inr (inr (inr z))) d = absurd z
    differ n l (inr (inl e)) (inl z) d = λ q. old_new l n (lower j f) z (path_is _ n e) (sym q)
    differ n l (inr (inl e)) (inr (inl g)) d = absurd (d (ap (λ (n : Node). n.number) (sym e ∙ g)))
    differ n l (inr (inl e)) (inr (inr (inl g))) d = λ q. parts_differ node.path j f (path_is _ n e ∙ q ∙ sym (path_is _ l g))
    differ n l (inr (inl e)) (inr (inr (inr z))) d = absurd z
    differ n l (inr (inr (inl e))) (inl z) d = λ q. old_new l n (upper j f) z (path_is _ n e) (sym q)
    differ n l (inr (inr (inl e))) (inr (inl g)) d = λ q. parts_differ node.path j f (path_is _ l g ∙ sym q ∙ sym (path_is _ n e))
    differ n l (inr (inr (inl e))) (inr (inr (inl g))) d = absurd (d (ap (λ (n : Node). n.number) (sym e ∙ g)))
    differ n l (inr (inr (inl e))) (inr (inr (inr z))) d = absurd z
    differ n l (inr (inr (inr i))) z d = absurd i

settled : (m : Model) (s : State) (node : Node) (k : ℕ) (d : Dictionary) (o : Outcome) (e : End) (trees : Bool → SplitTree) → IsValid m → AreTrueWith m s trees node
    → ((n : Node) → In s.waiting n → n.number < s.count) → IsOnTheWay (node_program m s.way node) d → Finishes (node_program m s.way node) d o → ComesTo m (box_of m node) s.found o e → SomeTrees m (ended s node k e)
settled m s node k d o e trees v h below w f c = by_end o e f c
  where
    best_at : (x : List ℚ) (y : ℚ) → Finishes (node_program m s.way node) d (best x y) → IsBasicBest (standard m (box_of m node) (is_plain s.way)) x
    best_at x y (at_best b) = record { dictionary = d; represents = w.dictionary; is_best = b; point = refl }

    by_end : (o : Outcome) (e : End) → Finishes (node_program m s.way node) d o → ComesTo m (box_of m node) s.found o e → SomeTrees m (ended s node k e)
    by_end o empty f c = (trees, closed m s node k empty trees h refl (λ n i. only_old s.waiting n (in_cases s.waiting [] n i)))
    by_end o (beaten x) f c = (trees, closed m s node k (beaten x) trees h refl (λ n i. only_old s.waiting n (in_cases s.waiting [] n i)))
    by_end o (clash i j y) f c = (trees, closed m s node k (clash i j y) trees h refl (λ n i. only_old s.waiting n (in_cases s.waiting [] n i)))
    by_end o (whole x y) f c = (trees, closed m s node k (whole x y) trees h refl (λ n i. only_old s.waiting n (in_cases s.waiting [] n i)))
    by_end (no_bound x u) (endless y z) f c = (trees, second m s node k y z trees h (not_true s.way (nothing_improves m s.way node d x u v w f)))
    by_end (best x v') (split j g v'') (at_best b) (is_split y u j' t q) = (
      with_tree (is_plain s.way) (grown (trees (is_plain s.way)) node.path j (floor_ℚ (at x j))) trees,
      split_one m s node k j (floor_ℚ (at x j)) v'' trees h below
          (split_between record { marked = q.broken.marked; point = x; best = best_at x v' (at_best b); above = floor_below (at x j) q.broken.broken; below = next_above (at x j) }),
    )
    by_end (best x v') (split j g v'') f (is_parted y u a b c' g' t n q p z) = (
      with_tree (is_plain s.way) (grown (trees (is_plain s.way)) node.path j g) trees,
      split_one m s node k j g v'' trees h below
          (split_alike (alike_split m (is_plain s.way) (box_of m node) x a b j g v (node_box m node v) (best_at x v' f) (all_whole m x n) q p z (split_bounds m node x a b j v q p))),
    )
    by_end no_point (endless y z) f c = elim c [ ]
    by_end (best x u) (endless y z) f c = elim c [ ]
    by_end no_point (split j g v') f c = elim c [ ]
    by_end (no_bound x y) (split j g v') f c = elim c [ ]

becoming_true : (m : Model) (s : State) (node : Node) (k : ℕ) (d : Dictionary) (t : State) (trees : Bool → SplitTree) → IsValid m → AreTrueWith m s trees node
    → ((n : Node) → In s.waiting n → n.number < s.count) → IsOnTheWay (node_program m s.way node) d → Becomes m s node k d t → SomeTrees m t
becoming_true m s node k d t trees v h below w (goes_on n) =
    (trees, record { state = record { are_true = h.state.are_true; opened = h.state.opened; waiting = h.state.waiting; apart = h.state.apart; none_yet = h.state.none_yet }; is_leaf = h.is_leaf; differs = h.differs })
becoming_true m s node k d t trees v h below w (ends o e f c) = settled m s node k d o e trees v h below w f c

growing_true : (m : Model) (rule : Rule) (us : List SearchUnit) (s t : State) (u : SearchUnit) → IsValid m → Trail m rule us s → SomeTrees m s → Grows m rule s u t → SomeTrees m t
growing_true m rule us s t u v l (trees, h) (opens p node t' z o e q b) =
    let a : AreTrue m s trees = subst (AreTrueNow m s trees) z h in
    let r = numbers_rise m rule us s l in
    let i = in_place s.waiting p node e in
    becoming_true m (without_place s p) node 0 _ t trees v record {
      state = record {
        are_true = a.are_true;
        opened = a.opened;
        waiting = λ n y. a.waiting n (in_removed s.waiting p n y);
        apart = λ n k x y. a.apart n k (in_removed s.waiting p n x) (in_removed s.waiting p k y);
        none_yet = a.none_yet;
      };
      is_leaf = a.waiting node i;
      differs = λ n y. a.apart node n i (in_removed s.waiting p n y) (others_differ 0 s.count s.waiting p node n r e y);
    } (λ n y. Rattle.searches.proofs.Once.below 0 s.count s.waiting n r (in_removed s.waiting p n y)) (first_on_the_way _ (node_regular m s.way node v)) b
growing_true m rule us s t u v l (trees, h) (pivots w r c t' z n y b) =
    let x : AreTrueWith m s trees w.node = subst (AreTrueNow m s trees) z h in
    let a : HoldsWith m s (Some w) = subst (HoldsWith m s) z (trail_stands m rule us s v l) in
    let q = numbers_rise m rule us s l in
    becoming_true m s w.node (suc w.pivots) _ t trees v x (λ n i. Rattle.searches.proofs.Once.below 0 s.count s.waiting n q i)
    (step_on_the_way (node_program m s.way w.node) w.dictionary (pivoted w.dictionary r c) a.1 record { row = r; column = c; is_next = n; is_narrow = y; after = refl }) b

at_start : (m : Model) → SomeTrees m start
at_start m = (
  λ b. leaf,
  record {
    are_true = λ b. tt;
    opened = tt;
    waiting = λ n i. subst (λ (n : Node). IsLeaf leaf n.path) (sym (one n i)) tt;
    apart = λ n k i j d. absurd (d (ap (λ (n : Node). n.number) (one n i ∙ sym (one k j))));
    none_yet = λ q. refl;
  },
)
  where
    one : (n : Node) → In (root 0 ∷ []) n → n ≡ root 0
    one n (inl q) = sym q
    one n (inr i) = absurd i

trail_true : (m : Model) (rule : Rule) (us : List SearchUnit) (s : State) → IsValid m → Trail m rule us s → SomeTrees m s
trail_true m rule us s v stays = at_start m
trail_true m rule us s v (grows vs r u t' l g) = growing_true m rule vs r s u v l (trail_true m rule vs r v l) g

each_in : (P : Node → Type 0) (ns : List Node) → ((n : Node) → In ns n → P n) → AllByRecursion P ns
each_in P [] h = tt
each_in P (n ∷ ns) h = (h n (inl refl), each_in P ns (λ k i. h k (inr i)))

state_of : (m : Model) (s : State) (trees : Bool → SplitTree) (o : Option Work) → AreTrueNow m s trees o → AreTrue m s trees
state_of m s trees None h = h
state_of m s trees (Some w) h = h.state

ways_true : (m : Model) (s : State) (o : Option Work) → HoldsWith m s o → (w : Way) → s.way ≡ Some w → IsBoxPoint m m.bounds w.point × IsWayOut m w.direction
ways_true m s None h w e = let k = h.way_is w e in (k.is_point, k.is_way)
ways_true m s (Some x) h w e = let k = h.0.way_is w e in (k.is_point, k.is_way)

pub trees_are_true : TreesAreTrue
trees_are_true m rule us s v l =
    let t = trail_true m rule us s v l in
    let h = state_of m s t.0 s.work t.1 in
    record {
      trees = t.0;
      are_true = h.are_true;
      opened = All-from_recursion (λ (o : Opened). IsNodeOf t.0 s.way o.node.path) s.opened h.opened;
      waiting = All-from_recursion (λ (n : Node). HasNode (t.0 (is_plain s.way)) n.path) s.waiting (each_in _ s.waiting (λ n i. leaf_is_node _ n.path (h.waiting n i)));
      work = λ w e. let k : AreTrueWith m s t.0 w.node = subst (AreTrueNow m s t.0) e t.1 in leaf_is_node _ w.node.path k.is_leaf;
      way = ways_true m s s.work (trail_stands m rule us s v l);
    }
