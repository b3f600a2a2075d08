-- A search as it begins, and the opening of a node.
use Rattle.std.proofs.Common.{◌≡◌, ℕ, ◌+◌, ◌≤◌, refl, sym, ap, ◌∙◌, subst, List, [], ◌∷◌, length, arith}
use Rattle.std.specs.Prelude.{Option, Some, None, slice_get, vec_len, vec_capacity}
use Rattle.std.proofs.Common.{Vec, Global}
use Rattle.std.specs.List.{remove}
use Rattle.std.specs.Option.{option_map}
use Rattle.dictionaries.specs.Dictionary.{Dictionary}
use Rattle.dictionaries.specs.Run.{IsReached}
use Rattle.dictionaries.proofs.Reaching.{reached_first}
use Rattle.node_pick.specs.Rules.{free}
use Rattle.node_pick.specs.declared.info.NodeInfo.{NodeInfo}
use Rattle.linear_models.specs.Model.{Model}
use Rattle.searches.specs.Trees.{Part}
use Rattle.searches.specs.Trails.{State, start, stays, Trail, without_place, box_of, node_program}
use Rattle.branch_bound.specs.declared.frontier.Visit.{Visit}
use Rattle.branch_bound.specs.declared.frontier.Found.{Found}
use Rattle.branch_bound.specs.declared.frontier.Way.{Way}
use Rattle.branch_bound.specs.declared.frontier.Frontier.{Frontier}
use Rattle.branch_bound.specs.declared.work.Work.{Work}
use Rattle.branch_bound.specs.declared.search.Room.{Room}
use Rattle.branch_bound.specs.States.{waiting_of, way_of, state_of, IsSame, IsListed, IsOrderly, IsPrepared, IsReady}
use Rattle.branch_bound.specs.Fields.{IsHeld}
use Rattle.branch_bound.proofs.Stepping.{state, made_is}
use Rattle.branch_bound.proofs.Joining.{map-remove, all_left, listed_at}

-- states of equal parts
state_is : (ps qs : List (List Part)) (vs ws : List Visit) (is js : List NodeInfo) (f g : Option Found) (y z : Option Way) → ps ≡ qs → vs ≡ ws → is ≡ js → f ≡ g → y ≡ z
    → state ps vs is f y ≡ state qs ws js g z
state_is ps qs vs ws is js f g y z a b c d e =
    ap (λ (x : List (List Part)). state x vs is f y) a
    ∙ (ap (λ (x : List Visit). state qs x is f y) b
    ∙ (ap (λ (x : List NodeInfo). state qs ws x f y) c ∙ (ap (λ (x : Option Found). state qs ws js x y) d ∙ ap (λ (x : Option Way). state qs ws js g x) e)))

abbrev pub first_info : NodeInfo
first_info = record { number = 0; depth = 0; bound = None }

pub begun : (m : Model) (budget : ℕ) (f : Frontier) (room : Room) → f.paths.paths ≡ [] ∷ [] → f.opened.items ≡ [] → f.waiting.items ≡ first_info ∷ [] → f.found ≡ None → f.way ≡ None
    → length room.point.items ≡ length m.whole → length room.direction.items ≡ length m.whole → budget ≤ 1000000
    → IsHeld (record { model = m; budget = budget; units = 0; frontier = f; work = None; room = Some room })
begun m budget f room a b c d e p q l =
    let z : state_of f None ≡ start = state_is f.paths.paths ([] ∷ []) f.opened.items [] f.waiting.items (first_info ∷ []) f.found None f.way None a b c d e in
    record {
      trail = record { units = []; trail = subst (λ (s : State). Trail m free [] s) (sym z) stays; count = refl };
      orderly = record {
        waiting = rw (a, c) (record { there = omega arith; depth = refl; short = omega arith }, tt);
        opened = rw b tt;
      };
      ready = tt;
      pivots = tt;
      room = (p, q);
      budget = l;
      units = omega arith;
      nodes = (let n = ap length a in omega (arith, n));
    }

-- ---- openings
pub removed_state : (b m : Frontier) (is : List NodeInfo) (p : ℕ) → IsSame b m → is ≡ remove m.waiting.items p → state m.paths.paths m.opened.items is m.found m.way ≡ without_place (state_of b None) p
removed_state b m is p s e =
    state_is m.paths.paths b.paths.paths m.opened.items b.opened.items is (remove b.waiting.items p) m.found b.found m.way b.way s.paths s.opened (e ∙ ap (λ (x : List NodeInfo). remove x p) s.waiting) s.found s.way
    ∙ made_is (state_of b None).found (state_of b None).way _ _ _ _ _ _ refl (map-remove (waiting_of b.paths.paths) b.waiting.items p) refl

pub removed_orderly : (b m : Frontier) (is : List NodeInfo) (p : ℕ) (v : Vec NodeInfo Global) → IsSame b m → v.items ≡ remove m.waiting.items p → IsOrderly b → IsOrderly (record m { waiting = v })
removed_orderly b m is p v s e o = record {
  waiting = rw (s.paths, e, s.waiting) (all_left (IsListed b.paths.paths) b.waiting.items p o.waiting);
  opened = rw (s.paths, s.opened) o.opened;
}

pub opened_ready : (model : Model) (b m : Frontier) (of : NodeInfo) (w : Work) (p : ℕ) (v : Vec NodeInfo Global) → IsPrepared model m of w → IsSame b m → IsOrderly b → slice_get b.waiting.items p ≡ Some w.info
    → vec_len v + 1 ≡ vec_len m.waiting → vec_capacity v ≡ vec_capacity m.waiting → IsReady model (record m { waiting = v }) w
opened_ready model b m of w p v r s o c l k = record {
  within = r.within ∙ ap (λ (i : NodeInfo). box_of model (waiting_of m.paths.paths i)) (sym r.info);
  program = r.program ∙ ap (λ (i : NodeInfo). node_program model (option_map way_of m.way) (waiting_of m.paths.paths i)) (sym r.info);
  reached = subst (λ (d : Dictionary). IsReached w.program d) (sym r.first) (reached_first w.program);
  columns = r.columns;
  point = r.point;
  direction = r.direction;
  listed = subst (λ (x : List (List Part)). IsListed x w.info) (sym s.paths) (listed_at b.paths.paths b.waiting.items p w.info o.waiting c);
  room = record { paths = r.room.paths; opened = r.room.opened; waiting = (let h = r.room.waiting in omega (arith, h, l, k)) };
}
