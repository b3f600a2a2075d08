-- What is kept of each node that was opened, from the last root on.
use Rattle.std.proofs.Common.{◌≡◌, ℕ, suc, ◌<◌, ◌≤◌, refl, sym, ap, subst, List, [], ◌∷◌, ◌++◌, map, inl, inr, ◌⊎◌, zero, arith}
use Rattle.std.specs.Prelude.{Option, Some, slice_get, ℤ, true}
use Rattle.std.specs.List.{remove}
use Rattle.fractions.specs.Rational.{ℚ, ◌≤ℚ◌}
use Rattle.fractions.specs.Vectors.{at}
use Rattle.fractions.proofs.Order.{le_refl, le_trans}
use Rattle.dictionaries.specs.Dictionary.{Dictionary, first_of_program}
use Rattle.dictionaries.specs.Bland.{IsBestEnd, IsInfeasibleEnd}
use Rattle.dictionaries.specs.Run.{Leads}
use Rattle.linear_models.specs.Model.{Model, is_whole_at}
use Rattle.opt_certificate.specs.Clashes.{IsClash}
use Rattle.searches.specs.Trees.{Node, Part, lower, upper, Found, Way, Ending, in_parts, in_clash, in_leaf}
use Rattle.searches.specs.Trails.{State, Opened, box_of, node_program, without_place}
use Rattle.searches.proofs.Members.{In, in_left, in_right, in_cases, in_place, in_rest, in_removed}
use Rattle.searches.proofs.Holds.{back}
use Rattle.search_certificates.specs.Nodes.{IsOpened, IsWaiting, IsThere, IsLastRoot}

-- ---- nodes that were opened or wait
abbrev pub opened_nodes : List Opened → List Node
opened_nodes os = map (λ (o : Opened). o.node) os

abbrev pub nodes_of : State → List Node
nodes_of s = opened_nodes s.opened ++ s.waiting

abbrev pub InOpened : List Opened → Opened → Type 0
InOpened [] o = ⊥
InOpened (p ∷ os) o = (p ≡ o) ⊎ InOpened os o

pub opened_in : (os : List Opened) (p : ℕ) (o : Opened) → slice_get os p ≡ Some o → InOpened os o
opened_in [] p o e = absurd cc
opened_in (q ∷ os) zero o e = inl cc
opened_in (q ∷ os) (suc p) o e = inr (opened_in os p o e)

pub opened_place : (os : List Opened) (o : Opened) → InOpened os o → (p : ℕ) × (slice_get os p ≡ Some o)
opened_place [] o i = absurd i
opened_place (q ∷ os) o (inl e) = (0, ap Some e)
opened_place (q ∷ os) o (inr i) = let r = opened_place os o i in (suc r.0, r.1)

pub node_place : (ns : List Node) (n : Node) → In ns n → (p : ℕ) × (slice_get ns p ≡ Some n)
node_place [] n i = absurd i
node_place (m ∷ ns) n (inl e) = (0, ap Some e)
node_place (m ∷ ns) n (inr i) = let r = node_place ns n i in (suc r.0, r.1)

pub opened_node : (os : List Opened) (o : Opened) → InOpened os o → In (opened_nodes os) o.node
opened_node [] o i = i
opened_node (q ∷ os) o (inl e) = inl (ap (λ (o : Opened). o.node) e)
opened_node (q ∷ os) o (inr i) = inr (opened_node os o i)

pub some_opened : (os : List Opened) (n : Node) → In (opened_nodes os) n → (o : Opened) × InOpened os o × (o.node ≡ n)
some_opened [] n i = absurd i
some_opened (o ∷ os) n (inl e) = (o, inl refl, e)
some_opened (o ∷ os) n (inr i) = let r = some_opened os n i in (r.0, inr r.1, r.2)

abbrev pub record_of : {s : State} {n : Node} {e : Ending} → IsOpened s n e → Opened
record_of {n = n} {e = e} h = record { node = n; pivots = h.pivots; ending = e }

pub is_in : (s : State) (n : Node) (e : Ending) → (h : IsOpened s n e) → InOpened s.opened (record_of h)
is_in s n e h = opened_in s.opened h.place (record_of h) h.there

pub is_opened : (s : State) (o : Opened) → InOpened s.opened o → IsOpened s o.node o.ending
is_opened s o i = let r = opened_place s.opened o i in record { pivots = o.pivots; place = r.0; there = r.1 }

pub there_in : (s : State) (n : Node) → IsThere s n → In (nodes_of s) n
there_in s n (inl (e, h)) = in_left (opened_nodes s.opened) s.waiting n (opened_node s.opened (record_of h) (is_in s n e h))
there_in s n (inr (p, e)) = in_right (opened_nodes s.opened) s.waiting n (in_place s.waiting p n e)

pub in_there : (s : State) (n : Node) → In (nodes_of s) n → IsThere s n
in_there s n i = elim (in_cases (opened_nodes s.opened) s.waiting n i) [
  | inl j ↦ let r = some_opened s.opened n j in inl (r.0.ending, subst (λ (n : Node). IsOpened s n r.0.ending) r.2 (is_opened s r.0 r.1))
  | inr j ↦ inr (node_place s.waiting n j)
]

-- ---- how each has ended
-- its program's run has ended at the last of its pivots: with no better value than that of the point found now, or without a point; its decisions clash;
-- or its two parts are nodes, by a decision that is to be whole
pub data IsSettled (m : Model) (way : Option Way) (found : Option Found) (ns : List Node) (n : Node) (k : ℕ) : Ending → Type 0 where
  at_best : (d : Dictionary) (f : Found) → Leads k (first_of_program (node_program m way n)) d → IsBestEnd d → found ≡ Some f → at d.objective 0 ≤ℚ f.value → IsSettled m way found ns n k in_leaf
  at_empty : (d : Dictionary) → Leads k (first_of_program (node_program m way n)) d → IsInfeasibleEnd d → IsSettled m way found ns n k in_leaf
  at_clash : (i j : ℕ) → IsClash m.groups (box_of m n) i j → IsSettled m way found ns n k (in_clash i j)
  at_parts : (j : ℕ) (f : ℤ) (a b : Node) → is_whole_at m.whole j ≡ true → In ns a → In ns b → b.number ≡ suc a.number → n.number < a.number
      → a.path ≡ n.path ++ lower j f ∷ [] → b.path ≡ n.path ++ upper j f ∷ [] → IsSettled m way found ns n k (in_parts a.number)

-- the new found point, if there is one, is at least as good
abbrev pub IsNoWorse : Option Found → Option Found → Type 0
IsNoWorse before after = (f : Found) → before ≡ Some f → (g : Found) × (after ≡ Some g) × (f.value ≤ℚ g.value)

pub no_worse : (f : Option Found) → IsNoWorse f f
no_worse f g e = (g, e, le_refl g.value)

pub settled_more : (m : Model) (way : Option Way) (found found' : Option Found) (ns ns' : List Node) (n : Node) (k : ℕ) (e : Ending) → IsNoWorse found found' → ((c : Node) → In ns c → In ns' c)
    → IsSettled m way found ns n k e → IsSettled m way found' ns' n k e
settled_more m way found found' ns ns' n k e w i (at_best d f l b q v) = let g = w f q in at_best d g.0 l b g.1 (le_trans _ _ _ v g.2)
settled_more m way found found' ns ns' n k e w i (at_empty d l b) = at_empty d l b
settled_more m way found found' ns ns' n k e w i (at_clash x y c) = at_clash x y c
settled_more m way found found' ns ns' n k e w i (at_parts j f a b q x y z l p r) = at_parts j f a b q (i a x) (i b y) z l p r

-- ---- states: what holds from the number of the last root on, as if the node that is worked on waited
pub record IsKept (m : Model) (s : State) (first : ℕ) : Type 0 where
  pub settled : (o : Opened) → InOpened s.opened o → first ≤ o.node.number → IsSettled m s.way s.found (nodes_of s) o.node o.pivots o.ending
  pub late : (n : Node) → In s.waiting n → first ≤ n.number
  pub below : (n : Node) → In (nodes_of s) n → n.number < s.count
  pub roots : (n : Node) → In (nodes_of s) n → n.path ≡ [] → n.number ≤ first
  pub root : (n : Node) × In (nodes_of s) n × (n.path ≡ []) × (n.number ≡ first)

-- so the last root has that number
pub last_is_first : (m : Model) (s : State) (first : ℕ) (r : Node) → IsKept m s first → IsLastRoot s r → r.number ≡ first
last_is_first m s first r h l =
    let a = h.roots r (there_in s r l.there) l.path in
    let b = l.last h.root.0 (in_there s h.root.0 h.root.1) h.root.2 in
    let c = h.root.3 in
    omega (arith, a, b, c)

-- and is a node
pub last_root : (m : Model) (s : State) (first : ℕ) → (h : IsKept m s first) → IsLastRoot s h.root.0
last_root m s first h = record {
  there = in_there s h.root.0 h.root.1;
  path = h.root.2;
  last = λ n t e. let a = h.roots n (there_in s n t) e in let b = h.root.3 in omega (arith, a, b);
}

-- ---- the opening of a node takes it from its place to the front
pub opening_kept : (m : Model) (s : State) (p : ℕ) (node : Node) (first : ℕ) → slice_get s.waiting p ≡ Some node → IsKept m s first → IsKept m (back (without_place s p) node) first
opening_kept m s p node first e h = record {
  settled = λ o i l. settled_more m s.way s.found s.found (nodes_of s) (nodes_of (back (without_place s p) node)) o.node o.pivots o.ending (no_worse s.found) (λ c j. is c j) (h.settled o i l);
  late = λ n i. h.late n (waited n i);
  below = λ n i. h.below n (was n i);
  roots = λ n i. h.roots n (was n i);
  root = (h.root.0, is h.root.0 h.root.1, h.root.2, h.root.3);
}
  where
    waited : (n : Node) → In (node ∷ remove s.waiting p) n → In s.waiting n
    waited n (inl q) = subst (In s.waiting) q (in_place s.waiting p node e)
    waited n (inr i) = in_removed s.waiting p n i

    waits : (n : Node) → In s.waiting n → In (node ∷ remove s.waiting p) n
    waits n i = in_rest s.waiting p n node e i

    was : (n : Node) → In (opened_nodes s.opened ++ (node ∷ remove s.waiting p)) n → In (nodes_of s) n
    was n i = elim (in_cases (opened_nodes s.opened) (node ∷ remove s.waiting p) n i) [ inl j ↦ in_left (opened_nodes s.opened) s.waiting n j | inr j ↦ in_right (opened_nodes s.opened) s.waiting n (waited n j) ]

    is : (n : Node) → In (nodes_of s) n → In (opened_nodes s.opened ++ (node ∷ remove s.waiting p)) n
    is n i = elim (in_cases (opened_nodes s.opened) s.waiting n i) [ inl j ↦ in_left (opened_nodes s.opened) (node ∷ remove s.waiting p) n j | inr j ↦ in_right (opened_nodes s.opened) (node ∷ remove s.waiting p) n (waits n j) ]
