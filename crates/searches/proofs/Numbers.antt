-- The numbers of the nodes that wait rise.
use Rattle.std.proofs.Common.{◌≡◌, ℕ, suc, zero, ◌+◌, ◌<◌, ◌≤◌, subst, List, [], ◌∷◌, ◌++◌, length, map, arith}
use Rattle.std.specs.Prelude.{Some, slice_get}
use Rattle.std.specs.List.{remove}
use Rattle.node_pick.specs.Rules.{Rule, IsRising}
use Rattle.node_pick.specs.declared.info.NodeInfo.{NodeInfo}
use Rattle.linear_models.specs.Model.{Model}
use Rattle.searches.specs.Trees.{Node, info, End, empty, beaten, whole, split, clash, endless, new_nodes}
use Rattle.searches.specs.Trails.{State, start, Becomes, goes_on, ends, Grows, opens, pivots, Leads, stays, grows, SearchUnit, waiting_after}
use Rattle.dictionaries.specs.Dictionary.{Dictionary}

-- the numbers rise from the first one on and stay below the second
abbrev pub Rises : ℕ → ℕ → List Node → Type 0
Rises low high [] = low ≤ high
Rises low high (n ∷ ns) = low ≤ n.number × Rises (suc n.number) high ns

pub rises_lower : (a b high : ℕ) (ns : List Node) → a ≤ b → Rises b high ns → Rises a high ns
rises_lower a b high [] h l = omega arith
rises_lower a b high (n ∷ ns) h r = (let z : b ≤ n.number = r.0 in omega (arith, z), r.1)

pub rises_remove : (low high : ℕ) (ns : List Node) (p : ℕ) → Rises low high ns → Rises low high (remove ns p)
rises_remove low high [] zero r = r
rises_remove low high [] (suc p) r = r
rises_remove low high (n ∷ ns) zero r = rises_lower low (suc n.number) high ns (let z : low ≤ n.number = r.0 in omega (arith, z)) r.1
rises_remove low high (n ∷ ns) (suc p) r = (r.0, rises_remove (suc n.number) high ns p r.1)

pub rises_append : (low mid high : ℕ) (ns ms : List Node) → Rises low mid ns → Rises mid high ms → Rises low high (ns ++ ms)
rises_append low mid high [] ms l r = rises_lower low mid high ms l r
rises_append low mid high (n ∷ ns) ms q r = (q.0, rises_append (suc n.number) mid high ns ms q.1 r)

parts_rise : (n : ℕ) (node : Node) (e : End) → Rises n (n + length (new_nodes n node e)) (new_nodes n node e)
parts_rise n node empty = omega arith
parts_rise n node (beaten v) = omega arith
parts_rise n node (whole x v) = omega arith
parts_rise n node (split j f v) = (omega arith, (omega arith, omega arith))
parts_rise n node (clash i j v) = omega arith
parts_rise n node (endless x w) = (omega arith, omega arith)

after_rises : (mid high : ℕ) (e : End) (ns ms : List Node) → Rises 0 mid ns → Rises mid high ms → Rises 0 high (waiting_after e ns ms)
after_rises mid high empty ns ms r q = rises_append 0 mid high ns ms r q
after_rises mid high (beaten v) ns ms r q = rises_append 0 mid high ns ms r q
after_rises mid high (whole x v) ns ms r q = rises_append 0 mid high ns ms r q
after_rises mid high (split j f v) ns ms r q = rises_append 0 mid high ns ms r q
after_rises mid high (clash i j v) ns ms r q = rises_append 0 mid high ns ms r q
after_rises mid high (endless x w) ns ms r q = rises_lower 0 mid high ms (omega arith) q

abbrev pub AreNumbered : State → Type 0
AreNumbered s = Rises 0 s.count s.waiting

becoming_rises : (m : Model) (s : State) (node : Node) (k : ℕ) (d : Dictionary) (t : State) → AreNumbered s → Becomes m s node k d t → AreNumbered t
becoming_rises m s node k d t r (goes_on n) = r
becoming_rises m s node k d t r (ends o e f c) = after_rises s.count _ e s.waiting (new_nodes s.count node e) r (parts_rise s.count node e)

growing_rises : (m : Model) (rule : Rule) (s t : State) (u : SearchUnit) → AreNumbered s → Grows m rule s u t → AreNumbered t
growing_rises m rule s t u r (opens p node t' z o e q b) = becoming_rises m _ node 0 _ t (rises_remove 0 s.count s.waiting p r) b
growing_rises m rule s t u r (pivots w i c t' z n y b) = becoming_rises m s w.node (suc w.pivots) _ t r b

pub numbers_rise : (m : Model) (rule : Rule) (us : List SearchUnit) (s : State) → Leads m rule start us s → AreNumbered s
numbers_rise m rule us s stays = (omega arith, omega arith)
numbers_rise m rule us s (grows vs t u t' l g) = growing_rises m rule t s u (numbers_rise m rule vs t l) g

-- ---- as the picker's list
from_low : (low high : ℕ) (ns : List Node) (k : ℕ) (b : NodeInfo) → Rises low high ns → slice_get (map info ns) k ≡ Some b → low ≤ b.number
from_low low high [] k b r e = absurd cc
from_low low high (n ∷ ns) zero b r e = subst (λ (u : NodeInfo). low ≤ u.number) (same (info n) b e) r.0
  where
    same : (a b : NodeInfo) → Some a ≡ Some b → a ≡ b
    same a b e = cc
from_low low high (n ∷ ns) (suc k) b r e = let z = from_low (suc n.number) high ns k b r.1 e in let y : low ≤ n.number = r.0 in omega (arith, z, y)

pub list_rises : (low high : ℕ) (ns : List Node) → Rises low high ns → IsRising (map info ns)
list_rises low high [] r j k a b l e f = absurd cc
list_rises low high (n ∷ ns) r zero zero a b l e f = absurd (omega arith)
list_rises low high (n ∷ ns) r zero (suc k) a b l e f =
    let z = from_low (suc n.number) high ns k b r.1 f in subst (λ (u : NodeInfo). u.number < b.number) (same (info n) a e) (omega (arith, z))
  where
    same : (a b : NodeInfo) → Some a ≡ Some b → a ≡ b
    same a b e = cc
list_rises low high (n ∷ ns) r (suc j) zero a b l e f = absurd (omega arith)
list_rises low high (n ∷ ns) r (suc j) (suc k) a b l e f = list_rises (suc n.number) high ns r.1 j k a b (omega arith) e f
