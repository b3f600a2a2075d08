-- At the end of a node its weight pays for its units, and for the parts that wait after it.
use Rattle.std.proofs.Common.{◌≡◌, ℕ, ◌+◌, ◌*◌, ◌≤◌, refl, sym, ap, ◌∙◌, subst, List, [], ◌∷◌, ◌++◌, arith, true, ◌⊎◌, inl, inr}
use Rattle.std.specs.Prelude.{Option, Some, None, ℤ}
use Rattle.std.proofs.Math.Nat.{mul-le-mul_left}
use Rattle.fractions.specs.Rational.{ℚ}
use Rattle.fractions.specs.Vectors.{at}
use Rattle.fractions.specs.Floor.{floor_ℚ}
use Rattle.dictionaries.specs.Dictionary.{Dictionary}
use Rattle.dictionaries.specs.Run.{IsOnTheWay}
use Rattle.dictionaries.proofs.Reaching.{reached_on_the_way}
use Rattle.linear_models.specs.Model.{Model, IsValid}
use Rattle.linear_models.specs.Standard.{standard}
use Rattle.searches.specs.Trees.{Node, End, empty, beaten, whole, split, clash, endless, lower, upper, part_of, box_along, root, new_nodes, Way, way_at}
use Rattle.searches.specs.Trails.{State, is_plain, box_of, node_program, Outcome, no_point, best, no_bound, Finishes, at_best, ComesTo, is_split, is_parted, waiting_after, Becomes, goes_on, ends, ended}
use Rattle.searches.specs.TrueTrees.{IsBasicBest}
use Rattle.searches.proofs.AlikeSplits.{alike_split, best_in_box}
use Rattle.searches.proofs.Boxes.{along-append}
use Rattle.searches.proofs.GroupBounds.{split_bounds}
use Rattle.searches.proofs.Members.{In, in_after}
use Rattle.searches.proofs.Ends.{all_whole, node_box, node_regular}
use Rattle.search_bounds.specs.Choices.{IsBounded}
use Rattle.search_bounds.specs.Trees.{HasBothParts, most_nodes}
use Rattle.search_bounds.proofs.Floors.{floor_below, next_above}
use Rattle.search_bounds.proofs.Halves.{Halved, halved}
use Rattle.search_bounds.proofs.Improving.{nothing_improves}
use Rattle.search_bounds.proofs.Programs.{bases_of, pivots_few}
use Rattle.search_bounds.proofs.Spending.{IsSpent, IsSpentNow, IsSpentWith, paid}
use Rattle.search_bounds.proofs.Splits.{alike_parts, strictly_between}
use Rattle.search_bounds.proofs.Weighing.{reserve, weight, weights, weights_append}
use Rattle.search_bounds.proofs.Weights.{halves_fit, one_node}
use Rattle.search_bounds.proofs.WholeBounds.{HasWholeBounds, model_bounds}

pub closed : (m : Model) (u : ℕ) (s : State) (node : Node) (k : ℕ) (d : Dictionary) (e : End) → IsValid m → IsSpentWith m u s node k d → new_nodes s.count node e ≡ [] → waiting_after e s.waiting [] ≡ s.waiting ++ [] → way_at e s.way ≡ s.way
    → IsSpent m u (ended s node k e)
closed m u s node k d e v h n w y = record {
  fits = λ j i. by_place j (in_after e s.waiting (new_nodes s.count node e) j i);
  spent = subst (λ t. u + bases_of m * t ≤ bases_of m * (2 * most_nodes m m.bounds)) sums
      (paid u (bases_of m) (weight m node) (weights m s.waiting + reserve m s.way) _ k 0 h.spent (pivots_few m (box_of m node) (is_plain s.way) k d v (node_box m node v) h.run) (one_node m (box_of m node)));
}
  where
    by_place : (j : Node) → In s.waiting j ⊎ In (new_nodes s.count node e) j → HasWholeBounds m (box_of m j)
    by_place j (inl i) = h.fits j i
    by_place j (inr i) = let z : In [] j = subst (λ (ns : List Node). In ns j) n i in absurd z

    sums : 0 + (weights m s.waiting + reserve m s.way) ≡ weights m (ended s node k e).waiting + reserve m (ended s node k e).way
    sums =
        let a : weights m (waiting_after e s.waiting (new_nodes s.count node e)) ≡ weights m s.waiting + 0 =
        ap (λ (ns : List Node). weights m (waiting_after e s.waiting ns)) n ∙ ap (weights m) w ∙ weights_append m s.waiting [] in
        let b : reserve m (way_at e s.way) ≡ reserve m s.way = ap (reserve m) y in
        omega (arith, a, b)

pub second : (m : Model) (u : ℕ) (s : State) (node : Node) (k : ℕ) (d : Dictionary) (x y : List ℚ) → IsValid m → IsBounded m → IsSpentWith m u s node k d → (is_plain s.way ≡ true → ⊥)
    → IsSpent m u (ended s node k (endless x y))
second m u s node k d x y v bs h never = record {
  fits = λ j i. fresh j i;
  spent = by_way s.way refl;
}
  where
    fresh : (j : Node) → In (root s.count ∷ []) j → HasWholeBounds m (box_of m j)
    fresh j (inl q) = subst (λ (n : Node). HasWholeBounds m (box_of m n)) q (model_bounds m v bs)
    fresh j (inr i) = absurd i

    numbers : (u c w o t r k : ℕ) → u + c * (w + (o + r)) ≤ t + (1 + k) → 1 + k ≤ c → 1 ≤ w → u + c * ((r + 0) + 0) ≤ t
    numbers u c w o t r k h b l = let q = paid u c w (o + r) t k 0 h b l in let z = mul-le-mul_left c (below o r) in omega (arith, q, z)
      where
        below : (o r : ℕ) → r ≤ o + r
        below o r = omega arith

    by_way : (o : Option Way) → s.way ≡ o → u + bases_of m * ((most_nodes m m.bounds + 0) + 0) ≤ bases_of m * (2 * most_nodes m m.bounds)
    by_way None e =
        numbers u (bases_of m) (weight m node) (weights m s.waiting) _ (most_nodes m m.bounds) k (subst (λ (o : Option Way). u + bases_of m * (weight m node + (weights m s.waiting + reserve m o)) ≤ bases_of m * (2 * most_nodes m m.bounds) + (1 + k)) e h.spent)
        (pivots_few m (box_of m node) (is_plain s.way) k d v (node_box m node v) h.run) (one_node m (box_of m node))
    by_way (Some w) e = absurd (never (ap is_plain e))

pub split_one : (m : Model) (u : ℕ) (s : State) (node : Node) (k : ℕ) (d : Dictionary) (j : ℕ) (f : ℤ) (value : ℚ) → IsValid m → IsSpentWith m u s node k d → HasBothParts m (box_of m node) j f
    → IsSpent m u (ended s node k (split j f value))
split_one m u s node k d j f value v h p = record {
  fits = λ n i. by_place n (in_after (split j f value) s.waiting (new_nodes s.count node (split j f value)) n i);
  spent = subst (λ t. u + bases_of m * t ≤ bases_of m * (2 * most_nodes m m.bounds)) sums
      (paid u (bases_of m) (weight m node) (weights m s.waiting + reserve m s.way) _ k _ h.spent (pivots_few m (box_of m node) (is_plain s.way) k d v (node_box m node v) h.run) (halves_fit m (box_of m node) j f halves));
}
  where
    halves : Halved m (box_of m node) j f
    halves = halved m (box_of m node) j f (node_box m node v) h.fits_too p

    low_box : box_along m.bounds (node.path ++ lower j f ∷ []) ≡ part_of (box_of m node) (lower j f)
    low_box = along-append m.bounds node.path (lower j f)

    high_box : box_along m.bounds (node.path ++ upper j f ∷ []) ≡ part_of (box_of m node) (upper j f)
    high_box = along-append m.bounds node.path (upper j f)

    by_place : (n : Node) → In s.waiting n ⊎ In (new_nodes s.count node (split j f value)) n → HasWholeBounds m (box_of m n)
    by_place n (inl i) = h.fits n i
    by_place n (inr (inl e)) = subst (λ (n : Node). HasWholeBounds m (box_of m n)) e (subst (HasWholeBounds m) (sym low_box) halves.low)
    by_place n (inr (inr (inl e))) = subst (λ (n : Node). HasWholeBounds m (box_of m n)) e (subst (HasWholeBounds m) (sym high_box) halves.high)
    by_place n (inr (inr (inr i))) = absurd i

    sums : (most_nodes m (part_of (box_of m node) (lower j f)) + most_nodes m (part_of (box_of m node) (upper j f))) + (weights m s.waiting + reserve m s.way)
        ≡ weights m (ended s node k (split j f value)).waiting + reserve m s.way
    sums =
        let a = weights_append m s.waiting (new_nodes s.count node (split j f value)) in
        let b = ap (most_nodes m) low_box in
        let c = ap (most_nodes m) high_box in
        omega (arith, a, b, c)

settled : (m : Model) (u : ℕ) (s : State) (node : Node) (k : ℕ) (d : Dictionary) (o : Outcome) (e : End) → IsValid m → IsBounded m → IsSpentWith m u s node k d
    → Finishes (node_program m s.way node) d o → ComesTo m (box_of m node) s.found o e → IsSpent m u (ended s node k e)
settled m u s node k d o e v bs h f c = by_end o e f c
  where
    w : IsOnTheWay (node_program m s.way node) d
    w = reached_on_the_way (node_program m s.way node) d (node_regular m s.way node v) (k, h.run)

    best_at : (x : List ℚ) (y : ℚ) → Finishes (node_program m s.way node) d (best x y) → IsBasicBest (standard m (box_of m node) (is_plain s.way)) x
    best_at x y (at_best b) = record { dictionary = d; represents = w.dictionary; is_best = b; point = refl }

    by_end : (o : Outcome) (e : End) → Finishes (node_program m s.way node) d o → ComesTo m (box_of m node) s.found o e → IsSpent m u (ended s node k e)
    by_end o empty f c = closed m u s node k d empty v h refl refl refl
    by_end o (beaten x) f c = closed m u s node k d (beaten x) v h refl refl refl
    by_end o (clash i j y) f c = closed m u s node k d (clash i j y) v h refl refl refl
    by_end o (whole x y) f c = closed m u s node k d (whole x y) v h refl refl refl
    by_end (no_bound x y) (endless y' z) f c = second m u s node k d y' z v bs h (nothing_improves m s.way node d x y v w f)
    by_end (best x v') (split j g v'') (at_best b) (is_split y t j' n q) =
        split_one m u s node k d j (floor_ℚ (at x j)) v'' v h
        (strictly_between m (box_of m node) x j (floor_ℚ (at x j)) h.fits_too
        (best_in_box m (is_plain s.way) (box_of m node) x v (node_box m node v) (best_at x v' (at_best b)))
        q.broken.marked (floor_below (at x j) q.broken.broken) (next_above (at x j)))
    by_end (best x v') (split j g v'') f (is_parted y t a b c' g' n q r p z) =
        split_one m u s node k d j g v'' v h
        (alike_parts m (is_plain s.way) (box_of m node) j g v (node_box m node v)
        (alike_split m (is_plain s.way) (box_of m node) x a b j g v (node_box m node v) (best_at x v' f) (all_whole m x q) r p z (split_bounds m node x a b j v r p)))
    by_end no_point (endless y z) f c = elim c [ ]
    by_end (best x y) (endless y' z) f c = elim c [ ]
    by_end no_point (split j g v') f c = elim c [ ]
    by_end (no_bound x y) (split j g v') f c = elim c [ ]

pub becoming_spent : (m : Model) (u : ℕ) (s : State) (node : Node) (k : ℕ) (d : Dictionary) (t : State) → IsValid m → IsBounded m → IsSpentWith m u s node k d → Becomes m s node k d t → IsSpentNow m u t t.work
becoming_spent m u s node k d t v b h (goes_on n) = record { fits = h.fits; fits_too = h.fits_too; spent = h.spent; run = h.run }
becoming_spent m u s node k d t v b h (ends o e f c) = settled m u s node k d o e v b h f c
