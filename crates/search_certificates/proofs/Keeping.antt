-- Each unit keeps it.
use Rattle.std.proofs.Common.{true, ◌≡◌, ℕ, suc, ◌+◌, ◌<◌, ◌≤◌, refl, sym, ap, subst, List, [], ◌∷◌, ◌++◌, length, arith, inl, inr, ◌⊎◌}
use Rattle.std.specs.Prelude.{Option, Some, None, slice_get, ℤ}
use Rattle.fractions.specs.Rational.{ℚ}
use Rattle.fractions.proofs.Order.{le_refl, le_of_lt}
use Rattle.dictionaries.specs.Dictionary.{Dictionary, pivoted, first_of_program}
use Rattle.dictionaries.specs.Run.{Leads}
use Rattle.dictionaries.proofs.Reaching.{leads_nowhere, leads_further, reached_on_the_way}
use Rattle.linear_models.specs.Model.{Model, IsValid, is_whole_at}
use Rattle.node_pick.specs.Rules.{Rule}
use Rattle.searches.specs.Trees.{Node, lower, upper, End, empty, beaten, whole, split, clash, endless, Ending, ending_at, child, new_nodes, root, Found, Way, found_at, way_at}
use Rattle.searches.specs.Trails.{State, Opened, Work, start, ended, without_place, box_of, node_program, IsBetterThan, Outcome, no_point, best, no_bound, Finishes, without_point, at_best, ComesTo, is_beaten, is_whole, is_split, is_parted, is_clash, waiting_after, Becomes, goes_on, ends, Grows, opens, pivots, stays, grows, SearchUnit, Trail}
use Rattle.searches.proofs.Members.{In, in_left, in_right, in_cases, in_after, new_from}
use Rattle.searches.proofs.Holds.{back}
use Rattle.searches.proofs.Ends.{node_regular, tells}
use Rattle.searches.proofs.Fixed.{closed_at_clash}
use Rattle.searches.proofs.GroupBounds.{group_bounds, marked_member, chosen}
use Rattle.search_certificates.proofs.Kept.{opened_nodes, nodes_of, InOpened, IsSettled, at_empty, at_clash, at_parts, IsNoWorse, no_worse, settled_more, IsKept, opening_kept}
use Rattle.search_certificates.proofs.Kept as keep

-- from the last root on
pub record SomeKept (m : Model) (s : State) : Type 0 where
  pub first : ℕ
  pub kept : IsKept m s first

-- ---- ends
-- the new nodes are no roots, and have the next numbers
abbrev AreNew : State → Node → End → Type 0
AreNew s node e = (n : Node) → In (new_nodes s.count node e) n → (n.path ≡ [] → ⊥) × (n.number < s.count + length (new_nodes s.count node e))

-- where no second tree begins: the nodes stay, those that are new have the next numbers, and the node itself is settled
still : (m : Model) (s : State) (node : Node) (k : ℕ) (e : End) (first : ℕ) → IsKept m (back s node) first → way_at e s.way ≡ s.way → IsNoWorse s.found (found_at e s.found)
    → ((n : Node) → In s.waiting n → In (waiting_after e s.waiting (new_nodes s.count node e)) n) → AreNew s node e
    → IsSettled m s.way (found_at e s.found) (nodes_of (ended s node k e)) node k (ending_at s.count e) → IsKept m (ended s node k e) first
still m s node k e first h w better stay new this = record {
  settled = λ o i l. subst (λ (y : Option Way). IsSettled m y (found_at e s.found) (nodes_of (ended s node k e)) o.node o.pivots o.ending) (sym w) (settles o i l);
  late = λ n i. lates n (in_after e s.waiting (new_nodes s.count node e) n i);
  below = λ n i. belows n (split_in n i);
  roots = λ n i q. root_at n q (split_in n i);
  root = (h.root.0, is h.root.0 h.root.1, h.root.2, h.root.3);
}
  where
    after : List Node
    after = waiting_after e s.waiting (new_nodes s.count node e)

    this_one : Opened
    this_one = record { node = node; pivots = k; ending = ending_at s.count e }

    is : (n : Node) → In (nodes_of (back s node)) n → In (nodes_of (ended s node k e)) n
    is n i = elim (in_cases (opened_nodes s.opened) (node ∷ s.waiting) n i) [
      | inl j ↦ inr (in_left (opened_nodes s.opened) after n j)
      | inr (inl q) ↦ inl q
      | inr (inr j) ↦ inr (in_right (opened_nodes s.opened) after n (stay n j))
    ]

    split_in : (n : Node) → In (nodes_of (ended s node k e)) n → In (nodes_of (back s node)) n ⊎ In (new_nodes s.count node e) n
    split_in n (inl q) = inl (in_right (opened_nodes s.opened) (node ∷ s.waiting) n (inl q))
    split_in n (inr i) = elim (in_cases (opened_nodes s.opened) after n i) [
      | inl j ↦ inl (in_left (opened_nodes s.opened) (node ∷ s.waiting) n j)
      | inr j ↦ elim (in_after e s.waiting (new_nodes s.count node e) n j) [
        | inl z ↦ inl (in_right (opened_nodes s.opened) (node ∷ s.waiting) n (inr z))
        | inr z ↦ inr z
      ]
    ]

    settles : (o : Opened) → InOpened (this_one ∷ s.opened) o → first ≤ o.node.number → IsSettled m s.way (found_at e s.found) (nodes_of (ended s node k e)) o.node o.pivots o.ending
    settles o (inl q) l = subst (λ (o : Opened). IsSettled m s.way (found_at e s.found) (nodes_of (ended s node k e)) o.node o.pivots o.ending) q this
    settles o (inr i) l = settled_more m s.way s.found (found_at e s.found) (nodes_of (back s node)) (nodes_of (ended s node k e)) o.node o.pivots o.ending better is (h.settled o i l)

    lates : (n : Node) → In s.waiting n ⊎ In (new_nodes s.count node e) n → first ≤ n.number
    lates n (inl i) = h.late n (inr i)
    lates n (inr i) = let a = new_from s.count node e n i in let b = h.below h.root.0 h.root.1 in let c = h.root.3 in omega (arith, a, b, c)

    belows : (n : Node) → In (nodes_of (back s node)) n ⊎ In (new_nodes s.count node e) n → n.number < s.count + length (new_nodes s.count node e)
    belows n (inl i) = let a = h.below n i in omega (arith, a)
    belows n (inr i) = (new n i).1

    root_at : (n : Node) → n.path ≡ [] → In (nodes_of (back s node)) n ⊎ In (new_nodes s.count node e) n → n.number ≤ first
    root_at n q (inl i) = h.roots n i q
    root_at n q (inr i) = absurd ((new n i).0 q)

-- a second tree begins: its root is the only node of it
second : (m : Model) (s : State) (node : Node) (k : ℕ) (x u : List ℚ) (first : ℕ) → IsKept m (back s node) first → IsKept m (ended s node k (endless x u)) s.count
second m s node k x u first h = record {
  settled = λ o i l. let a = old_opened o i in absurd (omega (arith, a, l));
  late = λ n i. let q = number n i in omega (arith, q);
  below = λ n i. elim (old_or_new n i) [ inl a ↦ omega (arith, a) | inr j ↦ let q = number n j in omega (arith, q) ];
  roots = λ n i q. elim (old_or_new n i) [ inl a ↦ omega (arith, a) | inr j ↦ let q = number n j in omega (arith, q) ];
  root = (root s.count, inr (in_right (opened_nodes s.opened) (root s.count ∷ []) (root s.count) (inl refl)), refl, refl);
}
  where
    this_one : Opened
    this_one = record { node = node; pivots = k; ending = Rattle.searches.specs.Trees.in_leaf }

    old : (n : Node) → In (node ∷ opened_nodes s.opened) n → n.number < s.count
    old n (inl q) = subst (λ (n : Node). n.number < s.count) q (h.below node (in_right (opened_nodes s.opened) (node ∷ s.waiting) node (inl refl)))
    old n (inr i) = h.below n (in_left (opened_nodes s.opened) (node ∷ s.waiting) n i)

    old_opened : (o : Opened) → InOpened (this_one ∷ s.opened) o → o.node.number < s.count
    old_opened o i = old o.node (keep.opened_node (this_one ∷ s.opened) o i)

    number : (n : Node) → In (root s.count ∷ []) n → n.number ≡ s.count
    number n (inl q) = sym (ap (λ (n : Node). n.number) q)
    number n (inr i) = absurd i

    old_or_new : (n : Node) → In ((node ∷ opened_nodes s.opened) ++ (root s.count ∷ [])) n → (n.number < s.count) ⊎ In (root s.count ∷ []) n
    old_or_new n i = elim (in_cases (node ∷ opened_nodes s.opened) (root s.count ∷ []) n i) [ inl j ↦ inl (old n j) | inr j ↦ inr j ]

more_path : (ps : List Rattle.searches.specs.Trees.Part) (p : Rattle.searches.specs.Trees.Part) → ps ++ p ∷ [] ≡ [] → ⊥
more_path [] p e = cc
more_path (q ∷ ps) p e = cc

-- the node is split at a decision that is to be whole
split_kept : (m : Model) (s : State) (node : Node) (k j : ℕ) (g : ℤ) (y : ℚ) → SomeKept m (back s node) → is_whole_at m.whole j ≡ true → SomeKept m (ended s node k (split j g y))
split_kept m s node k j g y h marked = record {
  first = h.first;
  kept = still m s node k (split j g y) h.first h.kept refl (no_worse s.found) (λ n i. in_left s.waiting (new_nodes s.count node (split j g y)) n i) new
      (at_parts j g (child s.count node (lower j g) y) (child (suc s.count) node (upper j g) y) marked (there _ (inl refl)) (there _ (inr (inl refl))) refl before refl refl);
}
  where
    before : node.number < s.count
    before = h.kept.below node (in_right (opened_nodes s.opened) (node ∷ s.waiting) node (inl refl))

    there : (c : Node) → In (new_nodes s.count node (split j g y)) c → In (nodes_of (ended s node k (split j g y))) c
    there c i = inr (in_right (opened_nodes s.opened) (s.waiting ++ new_nodes s.count node (split j g y)) c (in_right s.waiting (new_nodes s.count node (split j g y)) c i))

    new : AreNew s node (split j g y)
    new n (inl q) = subst (λ (n : Node). (n.path ≡ [] → ⊥) × (n.number < s.count + 2)) q (more_path node.path _, omega arith)
    new n (inr (inl q)) = subst (λ (n : Node). (n.path ≡ [] → ⊥) × (n.number < s.count + 2)) q (more_path node.path _, omega arith)
    new n (inr (inr i)) = absurd i

end_kept : (m : Model) (s : State) (node : Node) (k : ℕ) (d : Dictionary) (o : Outcome) (e : End) → IsValid m → SomeKept m (back s node) → Leads k (first_of_program (node_program m s.way node)) d
    → Finishes (node_program m s.way node) d o → ComesTo m (box_of m node) s.found o e → SomeKept m (ended s node k e)
end_kept m s node k d o e v h r f c = by_end o e f c
  where
    no_new : (n : Node) → In [] n → (n.path ≡ [] → ⊥) × (n.number < s.count + 0)
    no_new n i = absurd i

    by_end : (o : Outcome) (e : End) → Finishes (node_program m s.way node) d o → ComesTo m (box_of m node) s.found o e → SomeKept m (ended s node k e)
    by_end no_point empty (without_point b) c = record {
      first = h.first;
      kept = still m s node k empty h.first h.kept refl (no_worse s.found) (λ n i. in_left s.waiting [] n i) no_new (at_empty d r b);
    }
    by_end (best x y) (beaten y') (at_best b) (is_beaten x' z g q l) = record {
      first = h.first;
      kept = still m s node k (beaten y') h.first h.kept refl (no_worse s.found) (λ n i. in_left s.waiting [] n i) no_new (keep.at_best d g r b q l);
    }
    by_end (best x y) (whole x' y') (at_best b) (is_whole z u a n t) = record {
      first = h.first;
      kept = still m s node k (whole x' y') h.first h.kept refl better (λ n i. in_left s.waiting [] n i) no_new (keep.at_best d record { point = x'; value = y' } r b refl (le_refl y'));
    }
      where
        better : IsNoWorse s.found (Some record { point = x'; value = y' })
        better g q = (record { point = x'; value = y' }, refl, le_of_lt _ _ (subst (λ (u : Option Found). IsBetterThan u y') q a))
    by_end (best x y) (split j g y') (at_best b) (is_split z u j' a least) = split_kept m s node k j g y' h least.broken.marked
    by_end (best x y) (split c g y') (at_best b) (is_parted z u i j c' g' t n a p q) =
        split_kept m s node k c g y' h (marked_member m a.place a.group c v a.group_is (chosen x a.group (box_of m node) i j c a.alike p))
    by_end (best x y) (clash i j y') (at_best b) (is_clash z u i' j' t n a p q) = record {
      first = h.first;
      kept = still m s node k (clash i j y') h.first h.kept refl (no_worse s.found) (λ n i. in_left s.waiting [] n i) no_new
          (at_clash i j (closed_at_clash m.groups (box_of m node) x i j
          (tells m s.way node d (best x y) v (reached_on_the_way (node_program m s.way node) d (node_regular m s.way node v) (k, r)) (at_best b)).0.bounds a
          (group_bounds m node a.place a.group i v a.group_is a.alike.one) (group_bounds m node a.place a.group j v a.group_is a.alike.other) p q));
    }
    by_end o (endless x u) f c = record { first = s.count; kept = second m s node k x u h.first h.kept }
    by_end no_point (beaten y) f c = elim c [ ]
    by_end no_point (whole x y) f c = elim c [ ]
    by_end no_point (split j g y) f c = elim c [ ]
    by_end no_point (clash i j y) f c = elim c [ ]
    by_end (best x y) empty f c = elim c [ ]
    by_end (no_bound x u) empty f c = elim c [ ]
    by_end (no_bound x u) (beaten y) f c = elim c [ ]
    by_end (no_bound x u) (whole z y) f c = elim c [ ]
    by_end (no_bound x u) (split j g y) f c = elim c [ ]
    by_end (no_bound x u) (clash i j y) f c = elim c [ ]

-- ---- trails
abbrev pub IsKeptNow : Model → State → Option Work → Type 0
IsKeptNow m s None = SomeKept m s
IsKeptNow m s (Some w) = SomeKept m (back s w.node) × Leads w.pivots (first_of_program (node_program m s.way w.node)) w.dictionary

becoming : (m : Model) (s : State) (node : Node) (k : ℕ) (d : Dictionary) (t : State) → IsValid m → SomeKept m (back s node) → Leads k (first_of_program (node_program m s.way node)) d
    → Becomes m s node k d t → IsKeptNow m t t.work
becoming m s node k d t v h r (goes_on n) = (h, r)
becoming m s node k d t v h r (ends o e f c) = end_kept m s node k d o e v h r f c

growing : (m : Model) (rule : Rule) (s t : State) (u : SearchUnit) → IsValid m → IsKeptNow m s s.work → Grows m rule s u t → IsKeptNow m t t.work
growing m rule s t u v h (opens p node t' z o e q b) =
    let x : SomeKept m s = subst (IsKeptNow m s) z h in
    becoming m (without_place s p) node 0 _ t v record { first = x.first; kept = opening_kept m s p node x.first e x.kept } (leads_nowhere (first_of_program (node_program m s.way node))) b
growing m rule s t u v h (pivots w r c t' z n y b) =
    let x : IsKeptNow m s (Some w) = subst (IsKeptNow m s) z h in
    becoming m s w.node (suc w.pivots) _ t v x.0 (leads_further w.pivots (first_of_program (node_program m s.way w.node)) w.dictionary (pivoted w.dictionary r c) r c x.1 n y refl) b

pub trail_kept : (m : Model) (rule : Rule) (us : List SearchUnit) (s : State) → IsValid m → Trail m rule us s → IsKeptNow m s s.work
trail_kept m rule us s v stays = record {
  first = 0;
  kept = record {
    settled = λ o i l. absurd i;
    late = λ n i. omega arith;
    below = λ n i. root_below n i;
    roots = λ n i q. let a = root_below n i in omega (arith, a);
    root = (root 0, inl refl, refl, refl);
  };
}
  where
    root_below : (n : Node) → In (root 0 ∷ []) n → n.number < 1
    root_below n (inl q) = subst (λ (n : Node). n.number < 1) q (omega arith)
    root_below n (inr i) = absurd i
trail_kept m rule us s v (grows vs t u t' l g) = growing m rule t s u v (trail_kept m rule vs t v l) g

pub rest_kept : (m : Model) (rule : Rule) (us : List SearchUnit) (s : State) → IsValid m → Trail m rule us s → s.work ≡ None → SomeKept m s
rest_kept m rule us s v l n = subst (IsKeptNow m s) n (trail_kept m rule us s v l)
