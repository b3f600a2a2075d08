-- What is held after a unit.
use Rattle.std.proofs.Common.{◌≡◌, ℕ, suc, ◌+◌, ◌<◌, ◌≤◌, refl, sym, ap, ◌∙◌, subst, List, [], ◌∷◌, length, map, arith}
use Rattle.std.specs.Prelude.{Option, Some, None}
use Rattle.std.specs.Option.{option_map}
use Rattle.dictionaries.specs.Dictionary.{Dictionary, pivoted, first_of_program}
use Rattle.node_pick.specs.Rules.{Rule, free, Follows, IsRising}
use Rattle.node_pick.specs.Messages.{Message, Hears, question, news}
use Rattle.node_pick.specs.declared.info.NodeInfo.{NodeInfo}
use Rattle.node_pick.specs.declared.info.NodeEvent.TheVariants as events
use Rattle.linear_models.specs.Model.{Model}
use Rattle.searches.specs.Trees.{Part, Node, End, empty, beaten, whole, split, clash, endless, new_nodes, info}
use Rattle.searches.specs.Trails.{State, node_program, Becomes, goes_on, ends, Grows, opens, pivots, SearchUnit, opening, pivot, IsOver, without_place}
use Rattle.searches.specs.Trails as trails
use Rattle.searches.specs.Messages.{end_messages}
use Rattle.searches.proofs.Numbers.{numbers_rise, list_rises}
use Rattle.branch_bound.specs.declared.frontier.Frontier.{Frontier}
use Rattle.branch_bound.specs.declared.work.Work.{Work}
use Rattle.branch_bound.specs.declared.search.Search.TheInside.{Inside}
use Rattle.branch_bound.specs.States.{state_of, waiting_of, work_of, way_of, IsOrderly, IsReadyIf, IsOpened}
use Rattle.branch_bound.specs.Steps.{IsPivoted}
use Rattle.branch_bound.specs.Searches.{HasEnded}
use Rattle.branch_bound.specs.Fields.{held_of, IsHeld, IsCounted}
use Rattle.branch_bound.specs.Told.{Became, Grew, IsAsked}
use Rattle.branch_bound.proofs.Hearing.{hears_then}
use Rattle.branch_bound.proofs.Joining.{infos, map-slice_get, trail_grows}

-- ---- what a node's end changes
-- the node that is worked on is no part of it
rested_by : (m : Model) (s t : State) (x : Option trails.Work) (node : Node) (k : ℕ) (d : Dictionary) (heard : List Message → Type 0) (b : Becomes m s node k d t) → heard (end_messages b)
    → Became m (record s { work = x }) node k d t heard
rested_by m s t x node k d heard (goes_on n) h = record { becomes = goes_on n; hears = h }
rested_by m s t x node k d heard (ends o e f c) h = record { becomes = ends o e f c; hears = h }

rested : (m : Model) (s t : State) (x : Option trails.Work) (node : Node) (k : ℕ) (d : Dictionary) (heard : List Message → Type 0) → Became m s node k d t heard → Became m (record s { work = x }) node k d t heard
rested m s t x node k d heard b = rested_by m s t x node k d heard b.becomes b.hears

new_count : (n : ℕ) (node : Node) (e : End) → length (new_nodes n node e) ≤ 2
new_count n node empty = omega arith
new_count n node (beaten v) = omega arith
new_count n node (whole x v) = omega arith
new_count n node (split j f v) = omega arith
new_count n node (clash i j v) = omega arith
new_count n node (endless x d) = omega arith

counted : (m : Model) (s t : State) (node : Node) (k : ℕ) (d : Dictionary) → Becomes m s node k d t → t.count ≤ s.count + 2
counted m s t node k d (goes_on n) = omega arith
counted m s t node k d (ends o e f c) = let h = new_count s.count node e in omega (arith, h)

made_pivots : (m : Model) (s t : State) (node : Node) (k : ℕ) (d : Dictionary) (w : trails.Work) → Becomes m s node k d t → t.work ≡ Some w → w.pivots ≡ k
made_pivots m s t node k d w (goes_on n) e = inner _ w e
  where
    inner : (v w : trails.Work) → Some v ≡ Some w → w.pivots ≡ v.pivots
    inner v w e = let q : v ≡ w = cc in ap (λ (x : trails.Work). x.pivots) (sym q)
made_pivots m s t node k d w (ends o x f c) e = absurd cc

counted_work : (m : Model) (s : State) (f : Frontier) (w : Option Work) (node : Node) (k n : ℕ) (d : Dictionary) → Becomes m s node k d (state_of f w) → k ≤ n → IsCounted n w
counted_work m s f None node k n d b l = tt
counted_work m s f (Some w) node k n d b l = let e = made_pivots m s (state_of f (Some w)) node k d (work_of f.paths.paths w) b refl in omega (arith, e, l)

-- ---- what is held
held_after : (s : Inside) (f : Frontier) (w : Option Work) (rule : Rule) (u : SearchUnit) (base : State) (node : Node) (k : ℕ) (d : Dictionary) → IsHeld s
    → Grows s.model rule (state_of s.frontier s.work) u (state_of f w) → Becomes s.model base node k d (state_of f w) → base.count ≡ length s.frontier.paths.paths → k ≤ s.units + 1
    → IsOrderly f → IsReadyIf s.model f w → s.units < 1000000 → IsHeld (record s { units = s.units + 1; frontier = f; work = w })
held_after s f w rule u base node k d h g b c l o r n = record {
  trail = trail_grows s.model rule s.units (state_of s.frontier s.work) (state_of f w) u h.trail g;
  orderly = o;
  ready = r;
  pivots = counted_work s.model base f w node k (s.units + 1) d b l;
  room = h.room;
  budget = h.budget;
  units = omega (arith, n);
  nodes = (let a = counted s.model base (state_of f w) node k d b in let e = h.nodes in omega (arith, a, c, e));
}

-- ---- pivots
pub pivot_grew : (s : Inside) (w0 w1 : Work) (t : State) (rule : Rule) (heard : List Message → Type 0) → s.work ≡ Some w0 → IsPivoted w0 w1
    → Became s.model (state_of s.frontier None) (waiting_of s.frontier.paths.paths w1.info) w1.pivots w1.dict t heard → Grew s.model rule (state_of s.frontier s.work) t heard
pivot_grew s w0 w1 t rule heard e p b =
    let ps = s.frontier.paths.paths in
    let b1 : Became s.model (state_of s.frontier None) (waiting_of ps w0.info) (w0.pivots + 1) (pivoted w0.dict p.row p.column) t heard =
    subst (λ (w : Work). Became s.model (state_of s.frontier None) (waiting_of ps w.info) w.pivots w.dict t heard) p.same b in
    let n : w0.pivots + 1 ≡ suc w0.pivots = omega arith in
    let b2 : Became s.model (state_of s.frontier None) (waiting_of ps w0.info) (suc w0.pivots) (pivoted w0.dict p.row p.column) t heard =
    subst (λ (k : ℕ). Became s.model (state_of s.frontier None) (waiting_of ps w0.info) k (pivoted w0.dict p.row p.column) t heard) n b1 in
    let r = rested s.model (state_of s.frontier None) t (option_map (work_of ps) s.work) (waiting_of ps w0.info) (suc w0.pivots) (pivoted w0.dict p.row p.column) heard b2 in
    record {
      unit = pivot p.row p.column;
      grows = pivots (work_of ps w0) p.row p.column t (ap (option_map (work_of ps)) e) p.next p.narrow r.becomes;
      hears = r.hears;
    }

worked_pivots : (n : ℕ) (o : Option Work) (w : Work) → o ≡ Some w → IsCounted n o → w.pivots ≤ n
worked_pivots n o w e h = subst (IsCounted n) e h

pub pivot_held : (s : Inside) (w0 w1 : Work) (f : Frontier) (w : Option Work) (heard : List Message → Type 0) → IsHeld s → s.work ≡ Some w0 → IsPivoted w0 w1
    → Became s.model (state_of s.frontier None) (waiting_of s.frontier.paths.paths w1.info) w1.pivots w1.dict (state_of f w) heard → IsReadyIf s.model f w → IsOrderly f → s.units < 1000000
    → IsHeld (record s { units = s.units + 1; frontier = f; work = w })
pivot_held s w0 w1 f w heard h e p b r o n =
    let g = pivot_grew s w0 w1 (state_of f w) free heard e p b in
    let l = worked_pivots s.units s.work w0 e h.pivots in
    let k : w1.pivots ≡ w0.pivots + 1 = ap (λ (x : Work). x.pivots) p.same in
    held_after s f w free g.unit (state_of s.frontier None) (waiting_of s.frontier.paths.paths w1.info) w1.pivots w1.dict h g.grows b.becomes refl (omega (arith, l, k)) o r n

pub held_still : (s : Inside) (w0 w1 : Work) → IsHeld s → s.work ≡ Some w0 → w1 ≡ w0 → IsHeld (record s { work = Some w1 })
held_still s w0 w1 h e p = subst (λ (o : Option Work). IsHeld (record s { work = o })) (e ∙ ap Some (sym p)) h

-- ---- openings
pub waiting_rises : (s : Inside) → IsHeld s → IsRising s.frontier.waiting.items
waiting_rises s h =
    subst IsRising (infos s.frontier.paths.paths s.frontier.waiting.items h.orderly.waiting)
    (list_rises 0 (length s.frontier.paths.paths) (map (waiting_of s.frontier.paths.paths) s.frontier.waiting.items) (numbers_rise s.model free h.trail.units (state_of s.frontier s.work) h.trail.trail))

pub open_grew : (s : Inside) (f1 : Frontier) (w : Work) (t : State) (rule : Rule) (x y z : List Message → Type 0) → IsHeld s → s.work ≡ None → ¬ (HasEnded (held_of s))
    → IsOpened s.model s.frontier f1 rule (Hears x y) w → f1.paths.paths ≡ s.frontier.paths.paths
    → Became s.model (state_of f1 None) (waiting_of f1.paths.paths w.info) w.pivots w.dict t (Hears y z) → Grew s.model rule (state_of s.frontier s.work) t (Hears x z)
open_grew s f1 w t rule first next last h e n o q b =
    let ps = s.frontier.paths.paths in
    let st = state_of s.frontier s.work in
    let z : st.work ≡ None = ap (option_map (work_of ps)) e in
    let node : waiting_of f1.paths.paths w.info ≡ waiting_of ps w.info = ap (λ (x : List (List Part)). waiting_of x w.info) q in
    let y : option_map way_of f1.way ≡ option_map way_of s.frontier.way = ap (λ (x : State). x.way) o.state in
    let d : w.dict ≡ first_of_program (node_program s.model st.way (waiting_of ps w.info)) =
    o.first ∙ ap first_of_program (o.ready.program ∙ ap (λ (x : Node). node_program s.model (option_map way_of f1.way) x) node ∙ ap (λ (x : Option Rattle.searches.specs.Trees.Way). node_program s.model x (waiting_of ps w.info)) y) in
    let b1 = subst (λ (x : Node). Became s.model (state_of f1 None) x w.pivots w.dict t (Hears next last)) node b in
    let b2 = subst (λ (k : ℕ). Became s.model (state_of f1 None) (waiting_of ps w.info) k w.dict t (Hears next last)) o.pivots b1 in
    let b3 = subst (λ (x : Dictionary). Became s.model (state_of f1 None) (waiting_of ps w.info) 0 x t (Hears next last)) d b2 in
    let b4 = subst (λ (x : State). Became s.model x (waiting_of ps w.info) 0 (first_of_program (node_program s.model st.way (waiting_of ps w.info))) t (Hears next last)) o.state b3 in
    let b5 = rested s.model (without_place (state_of s.frontier None) o.place) t st.work (waiting_of ps w.info) 0 (first_of_program (node_program s.model st.way (waiting_of ps w.info))) (Hears next last) b4 in
    let is = s.frontier.waiting.items in
    let listed = sym (infos ps is h.orderly.waiting) in
    record {
      unit = opening w.info.number;
      grows = opens o.place (waiting_of ps w.info) t z (λ v. n (record { at_rest = z; over = v })) (map-slice_get (waiting_of ps) s.frontier.waiting.items o.place w.info o.chosen)
          (subst (λ (x : List NodeInfo). Follows rule x o.place) listed o.follows) b5.becomes;
      hears = subst (λ (x : List NodeInfo). Hears first last (question x o.place ∷ news (events.Opened w.info.number) ∷ end_messages b5.becomes)) listed
          (hears_then first next last (question is o.place ∷ news (events.Opened w.info.number) ∷ []) (end_messages b5.becomes) o.hears b5.hears);
    }

pub open_held : (s : Inside) (f1 : Frontier) (w : Work) (f : Frontier) (x : Option Work) (rule : Rule) (first next last : List Message → Type 0) → IsHeld s → s.work ≡ None → ¬ (HasEnded (held_of s))
    → IsOpened s.model s.frontier f1 rule (Hears first next) w → f1.paths.paths ≡ s.frontier.paths.paths
    → Became s.model (state_of f1 None) (waiting_of f1.paths.paths w.info) w.pivots w.dict (state_of f x) (Hears next last) → IsReadyIf s.model f x → IsOrderly f
    → s.units < 1000000 → IsHeld (record s { units = s.units + 1; frontier = f; work = x })
open_held s f1 w f x rule first next last h e n o q b r y l =
    let g = open_grew s f1 w (state_of f x) rule first next last h e n o q b in
    let k = o.pivots in
    held_after s f x rule g.unit (state_of f1 None) (waiting_of f1.paths.paths w.info) w.pivots w.dict h g.grows b.becomes (ap length q) (omega (arith, k)) y r l

-- what the picker is asked is the waiting list
pub asked_of : (s : Inside) (first last : List Message → Type 0) → IsHeld s → IsAsked first last s.frontier.waiting.items → IsAsked first last (map info (state_of s.frontier s.work).waiting)
asked_of s first last h a = subst (IsAsked first last) (sym (infos s.frontier.paths.paths s.frontier.waiting.items h.orderly.waiting)) a
