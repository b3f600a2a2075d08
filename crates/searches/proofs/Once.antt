-- No node is opened twice.
use Rattle.std.proofs.Common.{◌≡◌, ◌≢◌, ℕ, suc, zero, ◌<◌, ◌≤◌, refl, sym, ap, ◌∙◌, subst, List, [], ◌∷◌, arith, ◌⊎◌, inl, inr}
use Rattle.std.specs.Prelude.{Option, Some, None, slice_get}
use Rattle.std.specs.List.{remove}
use Rattle.dictionaries.specs.Dictionary.{Dictionary}
use Rattle.node_pick.specs.Rules.{Rule}
use Rattle.linear_models.specs.Model.{Model}
use Rattle.searches.specs.Trees.{Node, new_nodes}
use Rattle.searches.specs.Trails.{State, Opened, Trail, Work, start, Becomes, goes_on, ends, Grows, opens, pivots, Leads, stays, grows, SearchUnit}
use Rattle.searches.specs.Laws.{openings, Lacks, AreDistinct, NoNodeIsOpenedTwice}
use Rattle.searches.proofs.Members.{In, in_after, in_removed, in_place, new_from}
use Rattle.searches.proofs.Numbers.{Rises, numbers_rise}

-- the numbers of opened nodes
abbrev pub numbers : List Opened → List ℕ
numbers [] = []
numbers (o ∷ os) = o.node.number ∷ numbers os

abbrev pub IsApart : State → Option Work → Type 0
IsApart s None = Unit {0}
IsApart s (Some w) = Lacks (numbers s.opened) w.node.number × ((n : Node) → In s.waiting n → w.node.number ≢ n.number) × (w.node.number < s.count)

pub record IsOnce (s : State) : Type 0 where
  pub distinct : AreDistinct (numbers s.opened)
  pub waiting : (n : Node) → In s.waiting n → Lacks (numbers s.opened) n.number
  pub fresh : (k : ℕ) → s.count ≤ k → Lacks (numbers s.opened) k
  pub work : IsApart s s.work

above : (low high : ℕ) (ns : List Node) (n : Node) → Rises low high ns → In ns n → low ≤ n.number
above low high [] n r h = absurd h
above low high (m ∷ ns) n r (inl e) = subst (λ (u : Node). low ≤ u.number) e r.0
above low high (m ∷ ns) n r (inr h) = let z = above (suc m.number) high ns n r.1 h in let y : low ≤ m.number = r.0 in omega (arith, z, y)

pub below : (low high : ℕ) (ns : List Node) (n : Node) → Rises low high ns → In ns n → n.number < high
below low high [] n r h = absurd h
below low high (m ∷ ns) n r (inl e) = subst (λ (u : Node). u.number < high) e (let z = up (suc m.number) ns r.1 in omega (arith, z))
  where
    up : (low : ℕ) (ns : List Node) → Rises low high ns → low ≤ high
    up low [] r = r
    up low (m ∷ ns) r = let z = up (suc m.number) ns r.1 in let y : low ≤ m.number = r.0 in omega (arith, z, y)
below low high (m ∷ ns) n r (inr h) = below (suc m.number) high ns n r.1 h

-- what is left has other numbers than what is taken
pub others_differ : (low high : ℕ) (ns : List Node) (p : ℕ) (m n : Node) → Rises low high ns → slice_get ns p ≡ Some m → In (remove ns p) n → m.number ≢ n.number
others_differ low high [] p m n r e h = absurd cc
others_differ low high (k ∷ ns) zero m n r e h =
    let z = above (suc k.number) high ns n r.1 h in let q : k.number ≡ m.number = ap (λ (u : Node). u.number) (same k m e) in λ y. absurd (omega (arith, z, q, y))
  where
    same : (a b : Node) → Some a ≡ Some b → a ≡ b
    same a b e = cc
others_differ low high (k ∷ ns) (suc p) m n r e (inl q) =
    let z = above (suc k.number) high ns m r.1 (in_place ns p m e) in let y = ap (λ (u : Node). u.number) q in λ x. absurd (omega (arith, z, y, x))
others_differ low high (k ∷ ns) (suc p) m n r e (inr h) = others_differ (suc k.number) high ns p m n r.1 e h

-- the state before the node is settled
pub record IsOnceWith (s : State) (node : Node) : Type 0 where
  pub distinct : AreDistinct (numbers s.opened)
  pub waiting : (n : Node) → In s.waiting n → Lacks (numbers s.opened) n.number
  pub fresh : (k : ℕ) → s.count ≤ k → Lacks (numbers s.opened) k
  pub opened : Lacks (numbers s.opened) node.number
  pub other : (n : Node) → In s.waiting n → node.number ≢ n.number
  pub small : node.number < s.count

becoming_once : (m : Model) (s : State) (node : Node) (k : ℕ) (d : Dictionary) (t : State) → IsOnceWith s node → Becomes m s node k d t → IsOnce t
becoming_once m s node k d t h (goes_on n) = record { distinct = h.distinct; waiting = h.waiting; fresh = h.fresh; work = (h.opened, h.other, h.small) }
becoming_once m s node k d t h (ends o e f c) = record {
  distinct = (h.opened, h.distinct);
  waiting = λ n i. waits n (in_after e s.waiting (new_nodes s.count node e) n i);
  fresh = λ j l. (λ q. let z = h.small in absurd (omega (arith, z, q, l)), h.fresh j (omega (arith, l)));
  work = tt;
}
  where
    waits : (n : Node) → In s.waiting n ⊎ In (new_nodes s.count node e) n → (node.number ≢ n.number) × Lacks (numbers s.opened) n.number
    waits n (inl i) = (h.other n i, h.waiting n i)
    waits n (inr i) = let y = new_from s.count node e n i in let z = h.small in (λ q. absurd (omega (arith, y, z, q)), h.fresh n.number y)

growing_once : (m : Model) (rule : Rule) (s t : State) (u : SearchUnit) → Rises 0 s.count s.waiting → IsOnce s → Grows m rule s u t → IsOnce t
growing_once m rule s t u r h (opens p node t' z o e q b) =
    becoming_once m _ node 0 _ t record {
      distinct = h.distinct;
      waiting = λ n i. h.waiting n (in_removed s.waiting p n i);
      fresh = h.fresh;
      opened = h.waiting node (in_place s.waiting p node e);
      other = λ n i. others_differ 0 s.count s.waiting p node n r e i;
      small = below 0 s.count s.waiting node r (in_place s.waiting p node e);
    } b
growing_once m rule s t u r h (pivots w i c t' z n y b) =
    let a : IsApart s (Some w) = subst (IsApart s) z h.work in
    becoming_once m s w.node (suc w.pivots) _ t record { distinct = h.distinct; waiting = h.waiting; fresh = h.fresh; opened = a.0; other = a.1; small = a.2 } b

-- along any trail no node is opened twice
pub no_node_twice : (m : Model) (rule : Rule) (us : List SearchUnit) (s : State) → Leads m rule start us s → IsOnce s
no_node_twice m rule us s stays = record { distinct = tt; waiting = λ n i. tt; fresh = λ k l. tt; work = tt }
no_node_twice m rule us s (grows vs t u t' l g) = growing_once m rule t s u (numbers_rise m rule vs t l) (no_node_twice m rule vs t l) g

-- ---- the openings of a trail are the nodes that it has opened
abbrev pub opened_in : Option Work → List Opened → List ℕ
opened_in None os = numbers os
opened_in (Some w) os = w.node.number ∷ numbers os

becomes_opened : (m : Model) (s : State) (node : Node) (k : ℕ) (d : Dictionary) (t : State) → Becomes m s node k d t → opened_in t.work t.opened ≡ node.number ∷ numbers s.opened
becomes_opened m s node k d t (goes_on n) = refl
becomes_opened m s node k d t (ends o e f c) = refl

openings_are : (m : Model) (rule : Rule) (us : List SearchUnit) (s : State) → Trail m rule us s → openings us ≡ opened_in s.work s.opened
openings_are m rule us s stays = refl
openings_are m rule us s (grows vs t u t' l (opens p node t2 z o e q b)) =
    ap (λ ns. node.number ∷ ns) (openings_are m rule vs t l ∙ ap (λ (w : Option Work). opened_in w t.opened) z) ∙ sym (becomes_opened m _ node 0 _ s b)
openings_are m rule us s (grows vs t u t' l (pivots w r c t2 z n y b)) =
    openings_are m rule vs t l ∙ ap (λ (w : Option Work). opened_in w t.opened) z ∙ sym (becomes_opened m t w.node (suc w.pivots) _ s b)

all_distinct : (s : State) (o : Option Work) → AreDistinct (numbers s.opened) → IsApart s o → AreDistinct (opened_in o s.opened)
all_distinct s None d a = d
all_distinct s (Some w) d a = (a.0, d)

pub no_node_is_opened_twice : NoNodeIsOpenedTwice
no_node_is_opened_twice m rule us s l = let h = no_node_twice m rule us s l in subst AreDistinct (sym (openings_are m rule us s l)) (all_distinct s s.work h.distinct h.work)
