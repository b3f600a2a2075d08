-- The parts of a node that is split later have greater numbers, so no node is a part of two others.
use Rattle.std.proofs.Common.{◌≡◌, ℕ, suc, ◌+◌, ◌≤◌, refl, sym, ap, ◌∙◌, subst, List, [], ◌∷◌, length, arith, inl, inr, ◌⊎◌}
use Rattle.std.specs.Prelude.{⊤}
use Rattle.dictionaries.specs.Dictionary.{Dictionary}
use Rattle.linear_models.specs.Model.{Model}
use Rattle.node_pick.specs.Rules.{Rule}
use Rattle.searches.specs.Trees.{Node, End, empty, beaten, whole, split, clash, endless, Ending, in_parts, in_clash, in_leaf, ending_at, new_nodes}
use Rattle.searches.specs.Trails.{State, Opened, Becomes, goes_on, ends, Grows, opens, pivots, stays, grows, SearchUnit, Trail}
use Rattle.search_certificates.proofs.Kept.{InOpened}

-- the parts have numbers below the limit
abbrev IsBelow : ℕ → Ending → Type 0
IsBelow top (in_parts k) = k + 2 ≤ top
IsBelow top (in_clash i j) = ⊤
IsBelow top in_leaf = ⊤

-- the limit for nodes that were opened before
abbrev before : ℕ → Ending → ℕ
before top (in_parts k) = k
before top (in_clash i j) = top
before top in_leaf = top

-- of nodes that were opened, the latest first, the parts of each have lesser numbers than those of the ones before it in the list
abbrev pub PartsFall : ℕ → List Opened → Type 0
PartsFall top [] = ⊤
PartsFall top (o ∷ os) = IsBelow top o.ending × PartsFall (before top o.ending) os

below_more : (a b : ℕ) (e : Ending) → a ≤ b → IsBelow a e → IsBelow b e
below_more a b (in_parts k) l h = omega (arith, l, h)
below_more a b (in_clash i j) l h = tt
below_more a b in_leaf l h = tt

before_more : (a b : ℕ) (e : Ending) → a ≤ b → before a e ≤ before b e
before_more a b (in_parts k) l = omega arith
before_more a b (in_clash i j) l = l
before_more a b in_leaf l = l

fall_more : (a b : ℕ) (os : List Opened) → a ≤ b → PartsFall a os → PartsFall b os
fall_more a b [] l h = tt
fall_more a b (o ∷ os) l h = (below_more a b o.ending l h.0, fall_more (before a o.ending) (before b o.ending) os (before_more a b o.ending l) h.1)

-- ---- trails
end_falls : (s : State) (node : Node) (k : ℕ) (e : End) → PartsFall s.count s.opened → PartsFall (s.count + length (new_nodes s.count node e)) (record { node = node; pivots = k; ending = ending_at s.count e } ∷ s.opened)
end_falls s node k empty h = (tt, fall_more s.count (s.count + 0) s.opened (omega arith) h)
end_falls s node k (beaten v) h = (tt, fall_more s.count (s.count + 0) s.opened (omega arith) h)
end_falls s node k (whole x v) h = (tt, fall_more s.count (s.count + 0) s.opened (omega arith) h)
end_falls s node k (split j f v) h = (omega arith, h)
end_falls s node k (clash i j v) h = (tt, fall_more s.count (s.count + 0) s.opened (omega arith) h)
end_falls s node k (endless x u) h = (tt, fall_more s.count (s.count + 1) s.opened (omega arith) h)

becoming_falls : (m : Model) (s : State) (node : Node) (k : ℕ) (d : Dictionary) (t : State) → PartsFall s.count s.opened → Becomes m s node k d t → PartsFall t.count t.opened
becoming_falls m s node k d t h (goes_on n) = h
becoming_falls m s node k d t h (ends o e f c) = end_falls s node k e h

growing_falls : (m : Model) (rule : Rule) (s t : State) (u : SearchUnit) → PartsFall s.count s.opened → Grows m rule s u t → PartsFall t.count t.opened
growing_falls m rule s t u h (opens p node t' z o e q b) = becoming_falls m _ node 0 _ t h b
growing_falls m rule s t u h (pivots w r c t' z n y b) = becoming_falls m s w.node (suc w.pivots) _ t h b

pub trail_falls : (m : Model) (rule : Rule) (us : List SearchUnit) (s : State) → Trail m rule us s → PartsFall s.count s.opened
trail_falls m rule us s stays = tt
trail_falls m rule us s (grows vs t u t' l g) = growing_falls m rule t s u (trail_falls m rule vs t l) g

-- ---- no two nodes have a part in common
abbrev pub IsPartBy : Ending → ℕ → Type 0
IsPartBy (in_parts k) x = (x ≡ k) ⊎ (x ≡ suc k)
IsPartBy (in_clash i j) x = ⊥
IsPartBy in_leaf x = ⊥

part_below : (top : ℕ) (e : Ending) (x : ℕ) → IsBelow top e → IsPartBy e x → suc x ≤ top
part_below top (in_parts k) x h (inl q) = omega (arith, h, q)
part_below top (in_parts k) x h (inr q) = omega (arith, h, q)
part_below top (in_clash i j) x h p = absurd p
part_below top in_leaf x h p = absurd p

later_below : (top : ℕ) (os : List Opened) (o : Opened) (x : ℕ) → PartsFall top os → InOpened os o → IsPartBy o.ending x → suc x ≤ top
later_below top [] o x h i p = absurd i
later_below top (q ∷ os) o x h (inl e) p = part_below top q.ending x h.0 (subst (λ (o : Opened). IsPartBy o.ending x) (sym e) p)
later_below top (q ∷ os) o x h (inr i) p = lower q.ending h.0 (later_below (before top q.ending) os o x h.1 i p)
  where
    lower : (e : Ending) → IsBelow top e → suc x ≤ before top e → suc x ≤ top
    lower (in_parts k) b l = omega (arith, b, l)
    lower (in_clash i j) b l = l
    lower in_leaf b l = l

-- a part of the first one is no part of a later one
first_apart : (top : ℕ) (e : Ending) (x : ℕ) → IsPartBy e x → suc x ≤ before top e → ⊥
first_apart top (in_parts k) x (inl q) l = absurd (omega (arith, q, l))
first_apart top (in_parts k) x (inr q) l = absurd (omega (arith, q, l))
first_apart top (in_clash i j) x p l = p
first_apart top in_leaf x p l = p

pub one_parent : (top : ℕ) (os : List Opened) (o p : Opened) (x : ℕ) → PartsFall top os → InOpened os o → InOpened os p → IsPartBy o.ending x → IsPartBy p.ending x → o ≡ p
one_parent top [] o p x h i j a b = absurd i
one_parent top (q ∷ os) o p x h (inl e) (inl f) a b = sym e ∙ f
one_parent top (q ∷ os) o p x h (inl e) (inr j) a b = absurd (first_apart top q.ending x (subst (λ (o : Opened). IsPartBy o.ending x) (sym e) a) (later_below (before top q.ending) os p x h.1 j b))
one_parent top (q ∷ os) o p x h (inr i) (inl f) a b = absurd (first_apart top q.ending x (subst (λ (o : Opened). IsPartBy o.ending x) (sym f) b) (later_below (before top q.ending) os o x h.1 i a))
one_parent top (q ∷ os) o p x h (inr i) (inr j) a b = one_parent (before top q.ending) os o p x h.1 i j a b
