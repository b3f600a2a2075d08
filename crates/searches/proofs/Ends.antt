-- Each end of a node keeps what holds.
use Rattle.std.proofs.Common.{◌≡◌, ℕ, suc, ◌<◌, refl, sym, ap, ◌∙◌, subst, List, [], length, arith, false, ◌⊎◌, inl, inr}
use Rattle.std.specs.Prelude.{Option, Some, true, ℤ, pos, ◌+ℤ◌}
use Rattle.std.proofs.lemmas.Bool.{cases_eq}
use Rattle.fractions.specs.Rational.{ℚ, ◌≤ℚ◌, denominator}
use Rattle.fractions.specs.Vectors.{at}
use Rattle.fractions.specs.Floor.{floor_ℚ}
use Rattle.fractions.specs.Whole.{whole_ℚ}
use Rattle.fractions.proofs.Order.{le_trans, le_of_lt}
use Rattle.optimality.specs.Problem.{Assignment}
use Rattle.linear_programs.specs.Program.{IsRegular, objective_at}
use Rattle.linear_programs.proofs.LeafProofs.{leaf_proofs_hold}
use Rattle.dictionaries.specs.Dictionary.{Dictionary}
use Rattle.dictionaries.specs.Reading.{point_of, basic_solution}
use Rattle.dictionaries.specs.Run.{IsOnTheWay}
use Rattle.dictionaries.proofs.Ends.{ends_prove}
use Rattle.linear_models.specs.Worths.{form_at}
use Rattle.linear_models.specs.Box.{Box, InBox}
use Rattle.linear_models.specs.Model.{Model, IsPoint, IsValid, AreWhole, is_whole_at}
use Rattle.linear_models.specs.Standard.{wanted}
use Rattle.linear_models.specs.Laws.{IsBoxOf, IsBoxPoint}
use Rattle.linear_models.proofs.Points.{standard_keeps_points}
use Rattle.opt_certificate.specs.Certificate.{IsWayOut}
use Rattle.opt_certificate.proofs.Clashes.{clash_leaves_no_point}
use Rattle.opt_certificate.proofs.Parts.{in_lower, in_upper, sides}
use Rattle.opt_certificate.proofs.Trees.{marked_within}
use Rattle.searches.specs.Trees.{Node, End, empty, beaten, whole, split, clash, endless, lower, upper, child, new_nodes, root, Found, found_at, Way, way_at}
use Rattle.searches.specs.Trails.{State, ended, is_plain, box_of, node_program, IsBetterThan, IsBroken, IsUnbroken, Outcome, no_point, best, no_bound, Finishes, without_point, at_best, without_bound, ComesTo, is_empty, is_endless, is_beaten, is_whole, is_split, is_parted, is_clash, waiting_after, decisions_at}
use Rattle.searches.specs.Answers.{value_at}
use Rattle.searches.proofs.Boxes.{along_is_box, along-append, along_bounded, in_whole_along}
use Rattle.searches.proofs.Members.{In, in_left, in_right}
use Rattle.searches.proofs.Fixed.{closed_at_clash}
use Rattle.searches.proofs.GroupBounds.{group_bounds, marked_member, chosen}
use Rattle.searches.proofs.Ways.{way_of_program}
use Rattle.searches.proofs.Holds.{Holds, IsCovered, waits, reached, IsTrueFound, IsTrueWay, back, end_covers}

-- what the outcome of a node's run says of its box
abbrev pub Tells : Model → Option Way → Node → Outcome → Type 0
Tells m way node no_point = (x : Assignment) → IsPoint m x → InBox (box_of m node) x → ⊥
Tells m way node (best x v) =
    IsBoxPoint m (box_of m node) x × (is_plain way ≡ false → (value_at m x ≡ v) × ((y : Assignment) → IsPoint m y → InBox (box_of m node) y → value_at m y ≤ℚ v))
Tells m way node (no_bound x d) = IsBoxPoint m (box_of m node) x × IsWayOut m d

pub node_box : (m : Model) (node : Node) → IsValid m → IsBoxOf m (box_of m node)
node_box m node v = along_is_box m m.bounds node.path record { least = v.least; greatest = v.greatest }

pub node_regular : (m : Model) (way : Option Way) (node : Node) → IsValid m → IsRegular (node_program m way node)
node_regular m way node v = (standard_keeps_points.regular m (box_of m node) (is_plain way) v (node_box m node v)).regular

box_point : (m : Model) (box : Box) (x : Assignment) → IsPoint m x → InBox box x → IsBoxPoint m box x
box_point m box x p i = record { one_each = p.one_each; rows = p.rows; bounds = i }

pub tells : (m : Model) (way : Option Way) (node : Node) (d : Dictionary) (o : Outcome) → IsValid m → IsOnTheWay (node_program m way node) d
    → Finishes (node_program m way node) d o → Tells m way node o
tells m way node d o v w f = by_outcome o f
  where
    by_outcome : (o : Outcome) → Finishes (node_program m way node) d o → Tells m way node o
    by_outcome no_point (without_point e) = λ x p i.
        let g = standard_keeps_points.points m (box_of m node) (is_plain way) v (node_box m node v) in
        let y = (g.points x).1 (box_point m (box_of m node) x p i) in
        leaf_proofs_hold.contradictory (node_program m way node) y.0 _ y.1 (ends_prove.infeasible (node_program m way node) d (node_regular m way node v) w e)
    by_outcome (best z t) (at_best e) =
        let g = standard_keeps_points.points m (box_of m node) (is_plain way) v (node_box m node v) in
        let pr = ends_prove.best (node_program m way node) d (node_regular m way node v) w e in (
          (g.points (decisions_at (node_program m way node) d)).0 (point_of (node_program m way node) (basic_solution d), pr.is_point, refl),
          λ q. (
            subst (λ b. form_at (wanted m b) (decisions_at (node_program m way node) d) ≡ at d.objective 0) q (sym (g.objective _) ∙ pr.value),
            λ y p i.
                let c = (g.points y).1 (box_point m (box_of m node) y p i) in
                let l : objective_at (node_program m way node) c.0 ≤ℚ at d.objective 0 = leaf_proofs_hold.bounds (node_program m way node) c.0 _ _ c.1 pr.bounds in
                subst (λ b. form_at (wanted m b) y ≤ℚ at d.objective 0) q
                (subst (λ s. s ≤ℚ at d.objective 0) (g.objective c.0 ∙ ap (form_at (wanted m (is_plain way))) (sym c.2)) l),
          ),
        )
    by_outcome (no_bound z u) (without_bound c e) =
        let g = standard_keeps_points.points m (box_of m node) (is_plain way) v (node_box m node v) in
        let pr = ends_prove.unbounded (node_program m way node) d c (node_regular m way node v) w e in (
          (g.points (decisions_at (node_program m way node) d)).0 (point_of (node_program m way node) (basic_solution d), pr.is_point, refl),
          way_of_program m (box_of m node) (is_plain way) _ v (node_box m node v) (along_bounded m.bounds node.path) pr.is_way_out,
        )

-- ---- the ends, one by one
pub all_whole : (m : Model) (x : List ℚ) → IsUnbroken m x → AreWhole m.whole x
all_whole m x h j e = cases (cases_eq (denominator (at x j)) 1)
  where
    cases : (denominator (at x j) ≡ 1) ⊎ (denominator (at x j) ≡ 1 → ⊥) → denominator (at x j) ≡ 1
    cases (inl q) = q
    cases (inr n) = absurd (h j record { marked = e; broken = n })

in_root : (m : Model) (node : Node) (x : List ℚ) → IsBoxPoint m (box_of m node) x → IsBoxPoint m m.bounds x
in_root m node x h = record { one_each = h.one_each; rows = h.rows; bounds = in_whole_along m.bounds node.path x h.bounds }

found_same : (f g : Found) → Some f ≡ Some g → f ≡ g
found_same f g e = cc

way_same : (f g : Way) → Some f ≡ Some g → f ≡ g
way_same f g e = cc

pub keeps : (m : Model) (s : State) (node : Node) (k : ℕ) (o : Outcome) (e : End) → IsValid m → Holds m (back s node) → Tells m s.way node o → ComesTo m (box_of m node) s.found o e
    → Holds m (ended s node k e)
keeps m s node k o e valid h t c = by_end o e c t
  where
    -- the found point and the way stand as they were
    as_before : (e : End) → found_at e s.found ≡ s.found → way_at e s.way ≡ s.way
        → ((n : Node) → In s.waiting n → In (waiting_after e s.waiting (new_nodes s.count node e)) n)
        → ((x : Assignment) → IsPoint m x → InBox (box_of m node) x → IsCovered m (ended s node k e) x) → Holds m (ended s node k e)
    as_before e f w stay inside = record {
      covers = end_covers m s node k e h stay inside (λ x g q l. reached g (f ∙ q) (λ z. l (sym plain ∙ z)));
      found_is = λ g q. let r = h.found_is g (sym f ∙ q) in record { is_point = r.is_point; value = λ z. r.value (sym plain ∙ z) };
      way_is = λ g q. h.way_is g (sym w ∙ q);
    }
      where
        plain : is_plain (way_at e s.way) ≡ is_plain s.way
        plain = ap is_plain w

    -- a split at a decision that is to be whole keeps all points
    at_split : (j : ℕ) (f : ℤ) (value : ℚ) → is_whole_at m.whole j ≡ true → Holds m (ended s node k (split j f value))
    at_split j f value e =
        as_before (split j f value) refl refl (λ n i. in_left s.waiting (new_nodes s.count node (split j f value)) n i) (λ y p w. by_side y w (sides (at y j) f (p.whole j e)))
      where
        by_side : (y : Assignment) → InBox (box_of m node) y → (at y j ≤ℚ whole_ℚ f) ⊎ (whole_ℚ (f +ℤ pos 1) ≤ℚ at y j) → IsCovered m (ended s node k (split j f value)) y
        by_side y w (inl z) =
            let q : j < length m.whole = marked_within m.whole j e in
            let b = node_box m node valid in
            let l : j < length (box_of m node).greatest = omega (arith, q, b.greatest) in
            waits (child s.count node (lower j f) value) (in_right s.waiting (new_nodes s.count node (split j f value)) _ (inl refl))
            (subst (λ (c : Box). InBox c y) (sym (along-append m.bounds node.path (lower j f))) (in_lower (box_of m node) j f y l w z))
        by_side y w (inr z) =
            let q : j < length m.whole = marked_within m.whole j e in
            let b = node_box m node valid in
            let l : j < length (box_of m node).least = omega (arith, q, b.least) in
            waits (child (suc s.count) node (upper j f) value) (in_right s.waiting (new_nodes s.count node (split j f value)) _ (inr (inl refl)))
            (subst (λ (c : Box). InBox c y) (sym (along-append m.bounds node.path (upper j f))) (in_upper (box_of m node) j f y l w z))

    by_end : (o : Outcome) (e : End) → ComesTo m (box_of m node) s.found o e → Tells m s.way node o → Holds m (ended s node k e)
    by_end no_point empty is_empty t = as_before empty refl refl (λ n i. in_left s.waiting [] n i) (λ x p w. absurd (t x p w))
    by_end (no_bound x w) (endless x' w') (is_endless y u) t = record {
      covers = λ y p. waits (root s.count) (inl refl) p.bounds;
      found_is = λ f q. record { is_point = (h.found_is f q).is_point; value = λ z. absurd cc };
      way_is = λ g q. subst (IsTrueWay m) (way_same _ _ q) record { is_point = in_root m node x t.0; is_way = t.1 };
    }
    by_end (best x v) (beaten v') (is_beaten y u f q l) t =
        as_before (beaten v) refl refl (λ n i. in_left s.waiting [] n i) (λ y p w. reached f q (λ z. le_trans _ _ _ ((t.1 z).1 y p w) l))
    by_end (best x v) (whole x' v') (is_whole y u b n d) t = record {
      covers = end_covers m s node k (whole x v) h (λ n i. in_left s.waiting [] n i) (λ y p w. reached record { point = x; value = v } refl (λ z. (t.1 z).1 y p w))
          (λ y f q l. reached record { point = x; value = v } refl (λ z. le_trans _ _ _ (l z) (better f q b)));
      found_is = λ f q. subst (IsTrueFound m s.way) (found_same _ _ q) record {
        is_point = let r = in_root m node x t.0 in record { one_each = r.one_each; rows = r.rows; whole = all_whole m x n; bounds = r.bounds; different = d };
        value = λ z. (t.1 z).0;
      };
      way_is = h.way_is;
    }
      where
        better : (f : Found) → s.found ≡ Some f → IsBetterThan s.found v → f.value ≤ℚ v
        better f q b = le_of_lt _ _ (subst (λ (u : Option Found). IsBetterThan u v) q b)
    by_end (best x v) (split j fl v') (is_split y u j' b n) t = at_split j (floor_ℚ (at x j)) v' n.broken.marked
    by_end (best x v) (split c fl v') (is_parted y u i j c' f' b n a p q) t =
        at_split c fl v' (marked_member m a.place a.group c valid a.group_is (chosen x a.group (box_of m node) i j c a.alike p))
    by_end (best x v) (clash i j v') (is_clash y u i' j' b n a p q) t =
        as_before (clash i j v') refl refl (λ n i. in_left s.waiting [] n i)
        (λ y z w. absurd (clash_leaves_no_point m.groups (box_of m node) i j y
        (closed_at_clash m.groups (box_of m node) x i j t.0.bounds a (group_bounds m node a.place a.group i valid a.group_is a.alike.one) (group_bounds m node a.place a.group j valid a.group_is a.alike.other) p q) w z.different))
    by_end no_point (beaten v') x4 t = elim x4 [ ]
    by_end no_point (whole x' v') x6 t = elim x6 [ ]
    by_end no_point (split j fl v') x6 t = elim x6 [ ]
    by_end no_point (clash i j v') x7 t = elim x7 [ ]
    by_end no_point (endless x' w') x8 t = elim x8 [ ]
    by_end (best x v) empty x5 t = elim x5 [ ]
    by_end (best x v) (endless x' w') x7 t = elim x7 [ ]
    by_end (no_bound x w) empty x6 t = elim x6 [ ]
    by_end (no_bound x w) (beaten v') x7 t = elim x7 [ ]
    by_end (no_bound x w) (whole x' v') x9 t = elim x9 [ ]
    by_end (no_bound x w) (split j fl v') x9 t = elim x9 [ ]
    by_end (no_bound x w) (clash i j v') x10 t = elim x10 [ ]
