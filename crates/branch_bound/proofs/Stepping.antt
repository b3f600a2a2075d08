-- States that change by a step, as what is held changes.
use Rattle.std.proofs.Common.{◌≡◌, ℕ, ℤ, suc, ◌+◌, refl, sym, ap, ap₂, ◌∙◌, List, [], ◌∷◌, ◌++◌, length, map, reverse, arith, length-append, append_assoc, append-nil}
use Rattle.std.specs.Prelude.{Option, Some, None}
use Rattle.std.specs.Option.{option_map}
use Rattle.std.proofs.lemmas.List.{reverse-append, map-append}
use Rattle.fractions.specs.Rational.{ℚ}
use Rattle.node_pick.specs.declared.info.NodeInfo.{NodeInfo}
use Rattle.searches.specs.Trees.{Part, Node, child, root, lower, upper, empty, whole, split, clash, endless, in_parts, in_clash, in_leaf}
use Rattle.searches.specs.Trees as trees
use Rattle.searches.specs.Trails.{State, Opened, ended}
use Rattle.searches.specs.Trails as trails
use Rattle.branch_bound.specs.declared.frontier.Ending.{Ending}
use Rattle.branch_bound.specs.declared.frontier.Visit.{Visit}
use Rattle.branch_bound.specs.declared.frontier.Found.{Found}
use Rattle.branch_bound.specs.declared.frontier.Way.{Way}
use Rattle.branch_bound.specs.States.{path_of, node_of, waiting_of, ending_of, opened_of, found_of, way_of, AreListed, AreThere, with_child, with_root, with_opened}
use Rattle.branch_bound.proofs.Nodes.{waiting_kept, opened_kept, new_node}

abbrev pub state : List (List Part) → List Visit → List NodeInfo → Option Found → Option Way → State
state ps vs is found way = record {
  opened = reverse (map (opened_of ps) vs);
  waiting = map (waiting_of ps) is;
  count = length ps;
  found = option_map found_of found;
  way = option_map way_of way;
  work = None;
}

-- a state by its parts
abbrev pub made : Option trees.Found → Option trees.Way → List Opened → List Node → ℕ → State
made found way opened waiting count = record { opened = opened; waiting = waiting; count = count; found = found; way = way; work = None }

pub made_is : (found : Option trees.Found) (way : Option trees.Way) (o p : List Opened) (w x : List Node) (c d : ℕ) → o ≡ p → w ≡ x → c ≡ d → made found way o w c ≡ made found way p x d
made_is found way o p w x c d e f g = ap (λ (u : List Opened). made found way u w c) e ∙ (ap (λ (u : List Node). made found way p u c) f ∙ ap (made found way p x) g)

pub child_state : (ps : List (List Part)) (vs : List Visit) (is : List NodeInfo) (found : Option Found) (way : Option Way) (parent : NodeInfo) (part : Part) (v : ℚ) (i : NodeInfo)
    → AreListed ps is → AreThere ps vs → i.number ≡ length ps → i.bound ≡ Some v
    → state (ps ++ (path_of ps parent.number ++ part ∷ []) ∷ []) vs (is ++ i ∷ []) found way ≡ with_child (state ps vs is found way) (waiting_of ps parent) part v
child_state ps vs is found way parent part v i l t n b =
    let p = path_of ps parent.number ++ part ∷ [] in
    made_is (option_map found_of found) (option_map way_of way) _ _ _ _ _ _
    (ap reverse (opened_kept ps (p ∷ []) vs t))
    (map-append (waiting_of (ps ++ p ∷ [])) is (i ∷ []) ∙ ap₂ (λ (xs ys : List Node). xs ++ ys) (waiting_kept ps (p ∷ []) is l) (ap (λ (x : Node). x ∷ []) (at_end i.number i.bound n b)))
    (length-append ps (p ∷ []))
  where
    at_end : (k : ℕ) (c : Option ℚ) → k ≡ length ps → c ≡ Some v → node_of (ps ++ (path_of ps parent.number ++ part ∷ []) ∷ []) k c ≡ child (length ps) (waiting_of ps parent) part v
    at_end k c n b = ap₂ (λ (k : ℕ) (c : Option ℚ). node_of (ps ++ (path_of ps parent.number ++ part ∷ []) ∷ []) k c) n b ∙ new_node ps (path_of ps parent.number ++ part ∷ []) (Some v)

pub root_state : (ps : List (List Part)) (vs : List Visit) (is : List NodeInfo) (found : Option Found) (way : Option Way) (i : NodeInfo) → AreThere ps vs → i.number ≡ length ps → i.bound ≡ None
    → state (ps ++ [] ∷ []) vs (i ∷ []) found way ≡ with_root (state ps vs is found way)
root_state ps vs is found way i t n b =
    made_is (option_map found_of found) (option_map way_of way) _ _ _ _ _ _
    (ap reverse (opened_kept ps ([] ∷ []) vs t))
    (ap (λ (x : Node). x ∷ []) (ap₂ (λ (k : ℕ) (c : Option ℚ). node_of (ps ++ [] ∷ []) k c) n b ∙ new_node ps [] None))
    (length-append ps ([] ∷ []))

pub opened_state : (ps : List (List Part)) (vs : List Visit) (is : List NodeInfo) (found : Option Found) (way : Option Way) (i : NodeInfo) (k : ℕ) (x : Ending) (v : Visit)
    → v ≡ record { number = i.number; pivots = k; bound = i.bound; ending = x } → state ps (vs ++ v ∷ []) is found way ≡ with_opened (state ps vs is found way) (waiting_of ps i) k (ending_of x)
opened_state ps vs is found way i k x v e =
    made_is (option_map found_of found) (option_map way_of way) _ _ (map (waiting_of ps) is) _ (length ps) _
    (ap reverse (map-append (opened_of ps) vs (v ∷ [])) ∙ reverse-append (map (opened_of ps) vs) (opened_of ps v ∷ []) ∙ ap (λ (o : Visit). opened_of ps o ∷ reverse (map (opened_of ps) vs)) e)
    refl
    refl

-- ---- ends
pub closed_end : (s t : State) (node : Node) (k : ℕ) → s.work ≡ None → t ≡ with_opened s node k in_leaf → t ≡ ended s node k empty
closed_end s t node k w e = e ∙ ends s.opened s.waiting s.count s.found s.way s.work w
  where
    ends : (o : List Opened) (n : List Node) (c : ℕ) (f : Option trees.Found) (y : Option trees.Way) (w : Option trails.Work) → w ≡ None
        → with_opened (record { opened = o; waiting = n; count = c; found = f; way = y; work = w }) node k in_leaf ≡ ended (record { opened = o; waiting = n; count = c; found = f; way = y; work = w }) node k empty
    ends o n c f y w z =
        ap (λ (u : Option trails.Work). with_opened (record { opened = o; waiting = n; count = c; found = f; way = y; work = u }) node k in_leaf) z
        ∙ made_is f y _ _ _ _ _ _ refl (sym (append-nil n)) (omega arith)

pub clash_end : (s t : State) (node : Node) (k i j : ℕ) (v : ℚ) → s.work ≡ None → t ≡ with_opened s node k (in_clash i j) → t ≡ ended s node k (clash i j v)
clash_end s t node k i j v w e = e ∙ ends s.opened s.waiting s.count s.found s.way s.work w
  where
    ends : (o : List Opened) (n : List Node) (c : ℕ) (f : Option trees.Found) (y : Option trees.Way) (w : Option trails.Work) → w ≡ None
        → with_opened (record { opened = o; waiting = n; count = c; found = f; way = y; work = w }) node k (in_clash i j) ≡ ended (record { opened = o; waiting = n; count = c; found = f; way = y; work = w }) node k (clash i j v)
    ends o n c f y w z =
        ap (λ (u : Option trails.Work). with_opened (record { opened = o; waiting = n; count = c; found = f; way = y; work = u }) node k (in_clash i j)) z
        ∙ made_is f y _ _ _ _ _ _ refl (sym (append-nil n)) (omega arith)

-- a state by its parts, with no node that is worked on
abbrev pub resting : State → State
resting s = made s.found s.way s.opened s.waiting s.count

pub whole_end : (s t : State) (node : Node) (k : ℕ) (x : List ℚ) (v : ℚ) → s.work ≡ None → t ≡ with_opened s node k in_leaf → record t { found = Some record { point = x; value = v } } ≡ ended s node k (whole x v)
whole_end s t node k x v w e = ap (λ (u : State). record u { found = Some record { point = x; value = v } }) e ∙ ends s.work w
  where
    ends : (w : Option trails.Work) → w ≡ None
        → record (with_opened (record s { work = w }) node k in_leaf) { found = Some record { point = x; value = v } } ≡ ended s node k (whole x v)
    ends w z =
        ap (λ (u : Option trails.Work). record (with_opened (record s { work = u }) node k in_leaf) { found = Some record { point = x; value = v } }) z
        ∙ made_is (Some record { point = x; value = v }) s.way _ _ _ _ _ _ refl (sym (append-nil s.waiting)) (omega arith)

pub endless_end : (s s1 t : State) (node node1 : Node) (k : ℕ) (x d : List ℚ) → s.work ≡ None → s1 ≡ with_root s → node1 ≡ node → t ≡ with_opened s1 node1 k in_leaf
    → record t { way = Some record { point = x; direction = d } } ≡ ended s node k (endless x d)
endless_end s s1 t node node1 k x d w e n h =
    ap (λ (u : State). record u { way = Some record { point = x; direction = d } }) (h ∙ ap₂ (λ (u : State) (m : Node). with_opened u m k in_leaf) e n) ∙ ends s.work w
  where
    ends : (w : Option trails.Work) → w ≡ None
        → record (with_opened (with_root (record s { work = w })) node k in_leaf) { way = Some record { point = x; direction = d } } ≡ ended s node k (endless x d)
    ends w z =
        ap (λ (u : Option trails.Work). record (with_opened (with_root (record s { work = u })) node k in_leaf) { way = Some record { point = x; direction = d } }) z
        ∙ made_is s.found (Some record { point = x; direction = d }) _ _ _ _ _ _ refl refl (omega arith)

one_more : (c : ℕ) → c + 1 ≡ suc c
one_more c = omega arith

pub split_end : (s s1 s2 t : State) (node node1 node2 : Node) (k j : ℕ) (f : ℤ) (v : ℚ) → s.work ≡ None → s1 ≡ with_child s node (lower j f) v → node1 ≡ node
    → s2 ≡ with_child s1 node1 (upper j f) v → node2 ≡ node1 → t ≡ with_opened s2 node2 k (in_parts s.count) → t ≡ ended s node k (split j f v)
split_end s s1 s2 t node node1 node2 k j f v w e1 n1 e2 n2 h =
    h
    ∙ ap₂ (λ (u : State) (m : Node). with_opened u m k (in_parts s.count)) (e2 ∙ ap₂ (λ (u : State) (m : Node). with_child u m (upper j f) v) e1 n1) (n2 ∙ n1)
    ∙ ends s.work w
  where
    ends : (w : Option trails.Work) → w ≡ None → with_opened (with_child (with_child (record s { work = w }) node (lower j f) v) node (upper j f) v) node k (in_parts s.count) ≡ ended s node k (split j f v)
    ends w z =
        ap (λ (u : Option trails.Work). with_opened (with_child (with_child (record s { work = u }) node (lower j f) v) node (upper j f) v) node k (in_parts s.count)) z
        ∙ made_is s.found s.way _ _ _ _ _ _ refl
        (append_assoc s.waiting (child s.count node (lower j f) v ∷ []) (child (s.count + 1) node (upper j f) v ∷ [])
        ∙ ap (λ (c : ℕ). s.waiting ++ child s.count node (lower j f) v ∷ child c node (upper j f) v ∷ []) (one_more s.count))
        (omega arith)
