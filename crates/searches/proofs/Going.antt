-- Where a search isn't over, there is a next unit.
use Rattle.std.proofs.Common.{◌≡◌, ◌≢◌, ℕ, suc, zero, ◌<◌, ◌≤◌, refl, sym, subst, List, [], ◌∷◌, length, map, arith, Bool, true, false, ◌⊎◌, inl, inr}
use Rattle.std.specs.Prelude.{Option, Some, None, slice_get}
use Rattle.dictionaries.specs.Dictionary.{Dictionary, first_of_program, pivoted}
use Rattle.linear_programs.specs.Program.{Program}
use Rattle.dictionaries.specs.Narrow.{IsNarrowPivot}
use Rattle.dictionaries.specs.Bland.{NextPivot, HasEnded}
use Rattle.dictionaries.specs.Bland as bland
use Rattle.dictionaries.specs.Run.{IsReached}
use Rattle.dictionaries.proofs.Reaching.{reached_first, reached_further, reached_on_the_way}
use Rattle.dictionaries.proofs.Going.{run_goes_on}
use Rattle.dictionaries.proofs.Ends.{end_is_final}
use Rattle.node_pick.specs.Rules.{Rule, depth_first, best_first, oldest_first, free, Follows}
use Rattle.node_pick.specs.declared.info.NodeInfo.{NodeInfo}
use Rattle.linear_models.specs.Model.{Model, IsValid}
use Rattle.searches.specs.Trees.{Node, info}
use Rattle.searches.specs.Trails.{State, Work, without_place, node_program, Outcome, Finishes, without_point, at_best, without_bound, Becomes, goes_on, ends, Grows, opens, pivots, stays, grows, SearchUnit, opening, pivot, Trail, IsOver, none_waits}
use Rattle.searches.specs.GoesOn.{SearchGoesOn}
use Rattle.searches.proofs.Comings.{comes}
use Rattle.searches.proofs.Ends.{node_regular}

-- ---- a node that has come to a dictionary goes on or ends
finishes : (p : Program) (d : Dictionary) → HasEnded d → (o : Outcome) × Finishes p d o
finishes p d (bland.infeasible e) = (_, without_point e)
finishes p d (bland.best e) = (_, at_best e)
finishes p d (bland.unbounded c e) = (_, without_bound c e)

becomes : (m : Model) (s : State) (node : Node) (k : ℕ) (d : Dictionary) → IsValid m → IsReached (node_program m s.way node) d → (t : State) × Becomes m s node k d t
becomes m s node k d v w = elim (run_goes_on p d (node_regular m s.way node v) w) [
  | inl h ↦ let f = finishes p d h in let c = comes m node s.found f.0 v in (_, ends f.0 c.0 f.1 c.1)
  | inr n ↦ (_, goes_on (λ h. end_is_final p d n.0 n.1 (reached_on_the_way p d (node_regular m s.way node v) w) h n.2))
]
  where
    p : Program
    p = node_program m s.way node

-- ---- the node that is worked on has a next pivot
abbrev pub IsGoing : Model → State → Option Work → Type 0
IsGoing m s None = Unit {0}
IsGoing m s (Some w) = IsReached (node_program m s.way w.node) w.dictionary × ¬ (HasEnded w.dictionary)

becoming_going : (m : Model) (s : State) (node : Node) (k : ℕ) (d : Dictionary) (t : State) → IsReached (node_program m s.way node) d → Becomes m s node k d t → IsGoing m t t.work
becoming_going m s node k d t w (goes_on n) = (w, n)
becoming_going m s node k d t w (ends o e f c) = tt

growing_going : (m : Model) (rule : Rule) (s t : State) (u : SearchUnit) → IsGoing m s s.work → Grows m rule s u t → IsGoing m t t.work
growing_going m rule s t u h (opens p node t' z o e q b) = becoming_going m (without_place s p) node 0 _ t (reached_first (node_program m s.way node)) b
growing_going m rule s t u h (pivots w r c t' z n y b) =
    let k : IsGoing m s (Some w) = subst (IsGoing m s) z h in becoming_going m s w.node (suc w.pivots) _ t (reached_further (node_program m s.way w.node) w.dictionary (pivoted w.dictionary r c) r c k.0 n y refl) b

trail_going : (m : Model) (rule : Rule) (us : List SearchUnit) (s : State) → Trail m rule us s → IsGoing m s s.work
trail_going m rule us s stays = tt
trail_going m rule us s (grows vs t u t' l g) = growing_going m rule t s u (trail_going m rule vs t l) g

-- ---- a place that the rule allows is one of the list
within : (rule : Rule) (w : List NodeInfo) (p : ℕ) → Follows rule w p → p < length w
within depth_first w p f = f.place
within best_first w p f = f.place
within oldest_first w p f = f.place
within free w p f = f

node_there : (ns : List Node) (p : ℕ) → p < length (map info ns) → (n : Node) × (slice_get ns p ≡ Some n)
node_there [] p l = absurd (omega (arith, l))
node_there (n ∷ ns) zero l = (n, refl)
node_there (n ∷ ns) (suc p) l = node_there ns p (omega (arith, l))

pub search_goes_on : SearchGoesOn
search_goes_on m rule us s v l = record { at_work = at_work; at_rest = at_rest }
  where
    at_work : (w : Work) → s.work ≡ Some w
        → (r : ℕ) × (c : ℕ) × NextPivot w.dictionary r c × (IsNarrowPivot w.dictionary r c → (t : State) × Grows m rule s (pivot r c) t)
    at_work w z =
        let k : IsGoing m s (Some w) = subst (IsGoing m s) z (trail_going m rule us s l) in
        elim (run_goes_on (node_program m s.way w.node) w.dictionary (node_regular m s.way w.node v) k.0) [
          | inl h ↦ absurd (k.1 h)
          | inr n ↦ (
            n.0,
            n.1,
            n.2,
            λ y.
                let b = becomes m s w.node (suc w.pivots) (pivoted w.dictionary n.0 n.1) v (reached_further (node_program m s.way w.node) w.dictionary (pivoted w.dictionary n.0 n.1) n.0 n.1 k.0 n.2 y refl) in
                (b.0, pivots w n.0 n.1 b.0 z n.2 y b.1),
          )
        ]

    at_rest : s.work ≡ None → ¬ (IsOver m s) → (s.waiting ≢ [] → (p : ℕ) × Follows rule (map info s.waiting) p) → (n : ℕ) × (t : State) × Grows m rule s (opening n) t
    at_rest z o f =
        let q = f (λ e. o (none_waits e)) in
        let n = node_there s.waiting q.0 (within rule (map info s.waiting) q.0 q.1) in
        let b = becomes m (without_place s q.0) n.0 0 (first_of_program (node_program m s.way n.0)) v (reached_first (node_program m s.way n.0)) in
        (n.0.number, b.0, opens q.0 n.0 b.0 z o n.1 q.1 b.1)
