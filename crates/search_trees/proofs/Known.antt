-- What the slots say of a search's nodes.
use Rattle.std.proofs.Common.{◌≡◌, ℕ, suc, zero, ◌<◌, ◌≤◌, refl, sym, ap, ◌∙◌, subst, List, [], ◌∷◌, ◌++◌, length, map, reverse, arith, inl, inr, ◌⊎◌}
use Rattle.std.specs.Prelude.{Option, Some, None, slice_get, Bool}
use Rattle.std.specs.Option.{option_map}
use Rattle.std.proofs.lemmas.List.{reverse-append}
use Rattle.linear_models.specs.Model.{Model}
use Rattle.linear_models.specs.Standard.{standard}
use Rattle.node_pick.specs.declared.info.NodeInfo.{NodeInfo}
use Rattle.searches.specs.Trees.{Node, Part, Ending, in_parts, in_clash, in_leaf, lower, upper}
use Rattle.searches.specs.Trails.{State, Opened, is_plain}
use Rattle.searches.proofs.Members.{In, in_place}
use Rattle.branch_bound.specs.declared.frontier.Ending.{Ending as Kept}
use Rattle.branch_bound.specs.declared.frontier.Ending.TheVariants as endings
use Rattle.branch_bound.specs.declared.frontier.Frontier.{Frontier}
use Rattle.branch_bound.specs.declared.frontier.Visit.{Visit}
use Rattle.branch_bound.specs.States.{path_of, waiting_of, ending_of, opened_of, state_of}
use Rattle.search_certificates.specs.Nodes.{IsOpened, IsWaiting, IsThere}
use Rattle.search_certificates.proofs.Kept.{InOpened, record_of, is_in, is_opened, nodes_of, in_there, there_in, IsKept, IsSettled, at_best, at_empty, at_clash, at_parts}
use Rattle.search_certificates.proofs.OneNode.{IsNumbered, one_opened, not_both}
use Rattle.search_certificates.proofs.Falling.{PartsFall, IsPartBy, one_parent}
use Rattle.search_trees.specs.declared.slots.Slot.{Slot}
use Rattle.search_trees.specs.declared.slots.Slot.TheVariants as slots
use Rattle.search_trees.specs.Slots.{AreSlots, IsSlot, slot_at, slot_by}
use Rattle.search_trees.specs.Orders.{AreLater, AreApart}
use Rattle.search_trees.specs.Made.{IsLowerPath}
use Rattle.search_trees.specs.Solved.{RunEnds}

-- the state of a frontier whose search is at rest
abbrev pub rest_of : Frontier → State
rest_of f = state_of f None

abbrev pub path_by : Frontier → ℕ → List Part
path_by f n = path_of f.paths.paths n

pub record IsKnown (m : Model) (f : Frontier) (ss : List Slot) (first : ℕ) : Type 0 where
  pub kept : IsKept m (rest_of f) first
  pub numbered : IsNumbered (rest_of f)
  pub falls : PartsFall (rest_of f).count (rest_of f).opened
  pub slots : AreSlots (length f.paths.paths) f.opened.items ss

-- ---- lists that are turned round
in_more : (a b : List Opened) (o : Opened) → InOpened a o ⊎ InOpened b o → InOpened (a ++ b) o
in_more [] b o (inl i) = absurd i
in_more [] b o (inr i) = i
in_more (x ∷ a) b o (inl (inl e)) = inl e
in_more (x ∷ a) b o (inl (inr i)) = inr (in_more a b o (inl i))
in_more (x ∷ a) b o (inr i) = inr (in_more a b o (inr i))

in_either : (a b : List Opened) (o : Opened) → InOpened (a ++ b) o → InOpened a o ⊎ InOpened b o
in_either [] b o i = inr i
in_either (x ∷ a) b o (inl e) = inl (inl e)
in_either (x ∷ a) b o (inr i) = elim (in_either a b o i) [ inl j ↦ inl (inr j) | inr j ↦ inr j ]

turned : (os : List Opened) (o : Opened) → InOpened os o → InOpened (reverse os) o
turned [] o i = absurd i
turned (x ∷ os) o (inl e) = subst (λ xs. InOpened xs o) (sym (reverse-append (x ∷ []) os)) (in_more (reverse os) (x ∷ []) o (inr (inl e)))
turned (x ∷ os) o (inr i) = subst (λ xs. InOpened xs o) (sym (reverse-append (x ∷ []) os)) (in_more (reverse os) (x ∷ []) o (inl (turned os o i)))

turned_back : (os : List Opened) (o : Opened) → InOpened (reverse os) o → InOpened os o
turned_back [] o i = i
turned_back (x ∷ os) o i = elim (in_either (reverse os) (x ∷ []) o (subst (λ xs. InOpened xs o) (reverse-append (x ∷ []) os) i)) [
  | inl j ↦ inr (turned_back os o j)
  | inr (inl e) ↦ inl e
  | inr (inr j) ↦ absurd j
]

-- ---- nodes of the frontier
in_map : (ps : List (List Part)) (vs : List Visit) (i : ℕ) (v : Visit) → slice_get vs i ≡ Some v → InOpened (map (opened_of ps) vs) (opened_of ps v)
in_map ps [] i v e = absurd cc
in_map ps (w ∷ vs) zero v e = inl (ap (opened_of ps) (one w v e))
  where
    one : (w v : Visit) → Some w ≡ Some v → w ≡ v
    one w v e = cc
in_map ps (w ∷ vs) (suc i) v e = inr (in_map ps vs i v e)

pub record IsVisit (ps : List (List Part)) (vs : List Visit) (o : Opened) : Type 0 where
  pub place : ℕ
  pub visit : Visit
  pub there : slice_get vs place ≡ Some visit
  pub is : opened_of ps visit ≡ o

of_map : (ps : List (List Part)) (vs : List Visit) (o : Opened) → InOpened (map (opened_of ps) vs) o → IsVisit ps vs o
of_map ps [] o i = absurd i
of_map ps (v ∷ vs) o (inl e) = record { place = 0; visit = v; there = refl; is = e }
of_map ps (v ∷ vs) o (inr i) = let h = of_map ps vs o i in record { place = suc h.place; visit = h.visit; there = h.there; is = h.is }

pub visited : (f : Frontier) (i : ℕ) (v : Visit) → slice_get f.opened.items i ≡ Some v → InOpened (rest_of f).opened (opened_of f.paths.paths v)
visited f i v e = turned (map (opened_of f.paths.paths) f.opened.items) (opened_of f.paths.paths v) (in_map f.paths.paths f.opened.items i v e)

pub visit_of : (f : Frontier) (o : Opened) → InOpened (rest_of f).opened o → IsVisit f.paths.paths f.opened.items o
visit_of f o i = of_map f.paths.paths f.opened.items o (turned_back (map (opened_of f.paths.paths) f.opened.items) o i)

pub record IsWait (ps : List (List Part)) (infos : List NodeInfo) (n : Node) : Type 0 where
  pub place : ℕ
  pub info : NodeInfo
  pub there : slice_get infos place ≡ Some info
  pub is : waiting_of ps info ≡ n

pub wait_of : (ps : List (List Part)) (is : List NodeInfo) (n : Node) → In (map (waiting_of ps) is) n → IsWait ps is n
wait_of ps [] n i = absurd i
wait_of ps (x ∷ is) n (inl e) = record { place = 0; info = x; there = refl; is = e }
wait_of ps (x ∷ is) n (inr i) = let h = wait_of ps is n i in record { place = suc h.place; info = h.info; there = h.there; is = h.is }

pub in_wait : (ps : List (List Part)) (is : List NodeInfo) (i : ℕ) (x : NodeInfo) → slice_get is i ≡ Some x → In (map (waiting_of ps) is) (waiting_of ps x)
in_wait ps [] i x e = absurd cc
in_wait ps (y ∷ is) zero x e = inl (ap (waiting_of ps) (one y x e))
  where
    one : (y x : NodeInfo) → Some y ≡ Some x → y ≡ x
    one y x e = cc
in_wait ps (y ∷ is) (suc i) x e = inr (in_wait ps is i x e)

-- the path of a node is that of its number
pub path_is : (f : Frontier) (n : Node) → IsThere (rest_of f) n → n.path ≡ path_by f n.number
path_is f n (inl (e, o)) =
    let v = visit_of f (record_of o) (is_in (rest_of f) n e o) in
    sym (ap (λ (o : Opened). o.node.path) v.is) ∙ ap (λ (o : Opened). path_by f o.node.number) v.is
path_is f n (inr (p, e)) =
    let w = wait_of f.paths.paths f.waiting.items n (in_place (rest_of f).waiting p n e) in
    sym (ap (λ (n : Node). n.path) w.is) ∙ ap (λ (n : Node). path_by f n.number) w.is

-- ---- slots of nodes
abbrev pub slot_from : ℕ → Ending → Slot
slot_from k (in_parts n) = slots.Parts n
slot_from k (in_clash i j) = slots.Clash i j
slot_from k in_leaf = slots.Leaf k

slot_same : (k : ℕ) (e : Kept) → slot_by k e ≡ slot_from k (ending_of e)
slot_same k (endings.Parts n) = refl
slot_same k (endings.Clash i j) = refl
slot_same k endings.Leaf = refl

pub opened_slot : (m : Model) (f : Frontier) (ss : List Slot) (first : ℕ) (n : Node) (e : Ending) → IsKnown m f ss first → (o : IsOpened (rest_of f) n e) → slot_at ss n.number ≡ slot_from o.pivots e
opened_slot m f ss first n e h o = by_slot (h.slots.each n.number (h.kept.below n (there_in (rest_of f) n (inl (e, o)))))
  where
    i : InOpened (rest_of f).opened (record_of o)
    i = is_in (rest_of f) n e o

    by_slot : IsSlot f.opened.items n.number (slot_at ss n.number) → slot_at ss n.number ≡ slot_from o.pivots e
    by_slot (inl (w, never)) = let v = visit_of f (record_of o) i in absurd (never v.place v.visit v.there (ap (λ (o : Opened). o.node.number) v.is))
    by_slot (inr x) =
        let same : opened_of f.paths.paths x.visit ≡ record_of o = one_opened (rest_of f).opened (opened_of f.paths.paths x.visit) (record_of o) h.numbered.distinct (visited f x.place x.visit x.there) i x.number in
        x.slot ∙ slot_same x.visit.pivots x.visit.ending ∙ ap (λ (o : Opened). slot_from o.pivots o.ending) same

pub waiting_slot : (m : Model) (f : Frontier) (ss : List Slot) (first : ℕ) (n : Node) → IsKnown m f ss first → IsWaiting (rest_of f) n → slot_at ss n.number ≡ slots.Waits
waiting_slot m f ss first n h w = by_slot (h.slots.each n.number (h.kept.below n (there_in (rest_of f) n (inr w))))
  where
    by_slot : IsSlot f.opened.items n.number (slot_at ss n.number) → slot_at ss n.number ≡ slots.Waits
    by_slot (inl x) = x.0
    by_slot (inr x) =
        let o = opened_of f.paths.paths x.visit in
        absurd (not_both (rest_of f) o.node n o.ending h.numbered (is_opened (rest_of f) o (visited f x.place x.visit x.there)) w x.number)

-- ---- nodes of slots
-- a node that was opened has the number, and this slot
pub record HasVisit (f : Frontier) (k : ℕ) (s : Slot) : Type 0 where
  pub opened : Opened
  pub there : InOpened (rest_of f).opened opened
  pub number : opened.node.number ≡ k
  pub slot : s ≡ slot_from opened.pivots opened.ending
  pub path : opened.node.path ≡ path_by f k

pub known_visit : (m : Model) (f : Frontier) (ss : List Slot) (first k : ℕ) → IsKnown m f ss first → k < length ss → (slot_at ss k ≡ slots.Waits) ⊎ HasVisit f k (slot_at ss k)
known_visit m f ss first k h l = by_slot (h.slots.each k (let s = h.slots.size in omega (arith, l, s)))
  where
    by_slot : IsSlot f.opened.items k (slot_at ss k) → (slot_at ss k ≡ slots.Waits) ⊎ HasVisit f k (slot_at ss k)
    by_slot (inl x) = inl x.0
    by_slot (inr x) = inr record {
      opened = opened_of f.paths.paths x.visit;
      there = visited f x.place x.visit x.there;
      number = x.number;
      slot = x.slot ∙ slot_same x.visit.pivots x.visit.ending;
      path = ap (path_by f) x.number;
    }

-- an opened node of these parts
record IsParent (f : Frontier) (k c : ℕ) : Type 0 where
  opened : Opened
  there : InOpened (rest_of f).opened opened
  number : opened.node.number ≡ k
  ending : opened.ending ≡ in_parts c

parts_from : (k c : ℕ) (e : Ending) → slots.Parts c ≡ slot_from k e → e ≡ in_parts c
parts_from k c (in_parts n) q = cc
parts_from k c (in_clash i j) q = absurd cc
parts_from k c in_leaf q = absurd cc

leaf_from : (k n : ℕ) (e : Ending) → slots.Leaf n ≡ slot_from k e → (e ≡ in_leaf) × (k ≡ n)
leaf_from k n (in_parts m) q = absurd cc
leaf_from k n (in_clash i j) q = absurd cc
leaf_from k n in_leaf q = (refl, cc)

waits_not : (c : ℕ) → slots.Waits ≡ slots.Parts c → ⊥
waits_not c e = cc

waits_no_leaf : (k : ℕ) → slots.Waits ≡ slots.Leaf k → ⊥
waits_no_leaf k e = cc

parent : (m : Model) (f : Frontier) (ss : List Slot) (first k c : ℕ) → IsKnown m f ss first → k < length ss → slot_at ss k ≡ slots.Parts c → IsParent f k c
parent m f ss first k c h l e = by_visit (known_visit m f ss first k h l)
  where
    by_visit : (slot_at ss k ≡ slots.Waits) ⊎ HasVisit f k (slot_at ss k) → IsParent f k c
    by_visit (inl q) = absurd (waits_not c (sym q ∙ e))
    by_visit (inr v) = record { opened = v.opened; there = v.there; number = v.number; ending = parts_from v.opened.pivots c v.opened.ending (sym e ∙ v.slot) }

-- a slot past the last is that of a node that waits
past_waits : (ss : List Slot) (k : ℕ) → length ss ≤ k → slot_at ss k ≡ slots.Waits
past_waits [] k l = refl
past_waits (s ∷ ss) zero l = absurd (omega (arith, l))
past_waits (s ∷ ss) (suc k) l = past_waits ss k (omega (arith, l))

within : (ss : List Slot) (k c : ℕ) → slot_at ss k ≡ slots.Parts c → k < length ss
within ss k c e = by_order (order k (length ss))
  where
    order : (a b : ℕ) → (a < b) ⊎ (b ≤ a)
    order a b = grind arith

    by_order : (k < length ss) ⊎ (length ss ≤ k) → k < length ss
    by_order (inl l) = l
    by_order (inr l) = absurd (waits_not c (sym (past_waits ss k l) ∙ e))

-- what is settled of the parts of a node
pub record IsParted (f : Frontier) (k c : ℕ) : Type 0 where
  pub later : k < c
  pub few : suc c < length f.paths.paths
  pub decision : ℕ
  pub floor : Rattle.std.specs.Prelude.ℤ
  pub low_path : IsLowerPath f.paths.paths c decision floor

settled_parts : (m : Model) (f : Frontier) (first : ℕ) (n : Node) (k c : ℕ) (e : Ending) → IsKept m (rest_of f) first → e ≡ in_parts c → IsSettled m (rest_of f).way (rest_of f).found (nodes_of (rest_of f)) n k e
    → IsParted f n.number c
settled_parts m f first n k c e h q (at_best d g l r u w) = absurd cc
settled_parts m f first n k c e h q (at_empty d l r) = absurd cc
settled_parts m f first n k c e h q (at_clash i j r) = absurd cc
settled_parts m f first n k c e h q (at_parts j g a b marked x y z l p r) =
    let s : a.number ≡ c = same q in
    let t = h.below b y in
    record {
      later = omega (arith, l, s);
      few = omega (arith, t, z, s);
      decision = j;
      floor = g;
      low_path = (n.path, ap (path_by f) (sym s) ∙ sym (path_is f a (in_there (rest_of f) a x)) ∙ p);
    }
  where
    same : in_parts a.number ≡ in_parts c → a.number ≡ c
    same e = cc

pub parted : (m : Model) (f : Frontier) (ss : List Slot) (first k c : ℕ) → IsKnown m f ss first → first ≤ k → slot_at ss k ≡ slots.Parts c → IsParted f k c
parted m f ss first k c h l e =
    let p = parent m f ss first k c h (within ss k c e) e in
    let number = p.number in
    subst (λ k. IsParted f k c) p.number (settled_parts m f first p.opened.node p.opened.pivots c p.opened.ending h.kept p.ending (h.kept.settled p.opened p.there (omega (arith, l, number))))

pub are_later : (m : Model) (f : Frontier) (ss : List Slot) (first : ℕ) → IsKnown m f ss first → AreLater first ss
are_later m f ss first h n c l e = let p = parted m f ss first n c h l e in let s = h.slots.size in let a = p.few in (p.later, omega (arith, a, s))

pub are_apart : (m : Model) (f : Frontier) (ss : List Slot) (first : ℕ) → IsKnown m f ss first → AreApart first ss
are_apart m f ss first h n k c d x l r e q p w =
    let a = parent m f ss first n c h (within ss n c e) e in
    let b = parent m f ss first k d h (within ss k d q) q in
    let one = one_parent (rest_of f).count (rest_of f).opened a.opened b.opened x h.falls a.there b.there (subst (λ e. IsPartBy e x) (sym a.ending) p) (subst (λ e. IsPartBy e x) (sym b.ending) w) in
    sym a.number ∙ ap (λ (o : Opened). o.node.number) one ∙ b.number

-- the run of a leaf that was opened
settled_run : (m : Model) (f : Frontier) (n : Node) (k : ℕ) (e : Ending) → e ≡ in_leaf → IsSettled m (rest_of f).way (rest_of f).found (nodes_of (rest_of f)) n k e → RunEnds (Rattle.searches.specs.Trails.node_program m (rest_of f).way n) k
settled_run m f n k e q (at_best d g l r u w) = (d, l, inl r)
settled_run m f n k e q (at_empty d l r) = (d, l, inr r)
settled_run m f n k e q (at_clash i j r) = absurd cc
settled_run m f n k e q (at_parts j g a b marked x y z l p r) = absurd cc

pub run_ends : (m : Model) (f : Frontier) (ss : List Slot) (first k pivots : ℕ) → IsKnown m f ss first → first ≤ k → k < length ss → slot_at ss k ≡ slots.Leaf pivots
    → RunEnds (standard m (Rattle.searches.specs.Trees.box_along m.bounds (path_by f k)) (is_plain (rest_of f).way)) pivots
run_ends m f ss first k pivots h l b e = by_visit (known_visit m f ss first k h b)
  where
    by_visit : (slot_at ss k ≡ slots.Waits) ⊎ HasVisit f k (slot_at ss k) → RunEnds (standard m (Rattle.searches.specs.Trees.box_along m.bounds (path_by f k)) (is_plain (rest_of f).way)) pivots
    by_visit (inl q) = absurd (waits_no_leaf pivots (sym q ∙ e))
    by_visit (inr v) =
        let y = leaf_from v.opened.pivots pivots v.opened.ending (sym e ∙ v.slot) in
        let number = v.number in
        let r = settled_run m f v.opened.node v.opened.pivots v.opened.ending y.0 (h.kept.settled v.opened v.there (omega (arith, l, number))) in
        subst (λ ps. RunEnds (standard m (Rattle.searches.specs.Trees.box_along m.bounds ps) (is_plain (rest_of f).way)) pivots) v.path
        (subst (λ n. RunEnds (standard m (Rattle.searches.specs.Trees.box_along m.bounds v.opened.node.path) (is_plain (rest_of f).way)) n) y.1 r)
