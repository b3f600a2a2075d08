-- Runs that are cut are one run.
use Rattle.std.proofs.Common.{◌≡◌, ℕ, ◌+◌, ◌≤◌, ◌∙◌, ◌⊎◌, inl, inr, sym, ap, subst, List, [], ◌∷◌, ◌++◌, length, arith, length-append, append-nil, append_assoc}
use Rattle.std.specs.Prelude.{Result, Ok, Err, map}
use Rattle.node_pick.specs.Rules.{Rule}
use Rattle.node_pick.specs.Messages.{Message, Hears, question}
use Rattle.linear_models.specs.Model.{Model}
use Rattle.searches.specs.Trees.{info}
use Rattle.searches.specs.Trails.{State, SearchUnit, Leads, stays, grows}
use Rattle.searches.specs.Messages.{trail_messages, unit_messages}
use Rattle.branch_bound.specs.Searches.{Held, IsContinued}
use Rattle.branch_bound.specs.Ends.{MayGoOn, EndsAs, HearsUntil}
use Rattle.branch_bound.specs.Slices.{AreHeard, SlicesAreOneRun}
use Rattle.branch_bound.specs.declared.progress.Progress.{Progress}
use Rattle.branch_bound.specs.declared.progress.Progress.TheVariants as progress
use Rattle.branch_bound.specs.declared.progress.SearchStop.{SearchStop}
use Rattle.branch_bound.specs.declared.progress.SearchStop.TheVariants as stop
use Rattle.branch_bound.proofs.Hearing.{hears_then}

-- ---- units
join : (m : Model) (rule : Rule) (s t : State) (us : List SearchUnit) (k : Leads m rule s us t) (vs : List SearchUnit) (w : State) (l : Leads m rule t vs w)
    → (j : Leads m rule s (vs ++ us) w) × (trail_messages j ≡ trail_messages k ++ trail_messages l)
join m rule s t us k vs w stays = (k, sym (append-nil (trail_messages k)))
join m rule s t us k vs w (grows ws x u y l g) =
    let j = join m rule s t us k ws x l in
    (grows (ws ++ us) x u w j.0 g, ap (λ (ms : List Message). ms ++ unit_messages g) j.1 ∙ append_assoc (trail_messages k) (trail_messages l) (unit_messages g))

-- ---- what is heard
heard_after : (first next last : List Message → Type 0) (s : State) (end : Result Progress SearchStop) (ms ns : List Message) → Hears first next ms → HearsUntil next last s end ns → HearsUntil first last s end (ms ++ ns)
heard_after first next last s (Ok p) ms ns f g = hears_then first next last ms ns f g
heard_after first next last s (Err (stop.WidePivot path basis leaves enters)) ms ns f g = hears_then first next last ms ns f g
heard_after first next last s (Err (stop.Budget n)) ms ns f g = hears_then first next last ms ns f g
heard_after first next last s (Err stop.Memory) ms ns f (inl g) = inl (hears_then first next last ms ns f g)
heard_after first next last s (Err stop.Memory) ms ns f (inr g) =
    let q = question (map info s.waiting) g.0 ∷ [] in
    inr (g.0, subst (Hears first last) (sym (append_assoc ms ns q)) (hears_then first next last ms (ns ++ q) f g.1))

-- ---- ends
further : (x y a b : ℕ) (s : Held) → y ≡ x + a → MayGoOn y b s → MayGoOn x (a + b) s
further x y a b s e h = record { leaf = h.leaf; in_budget = h.in_budget; asked = (let l = h.asked in omega (arith, l, e)) }

ends_after : (x y a b : ℕ) (s : Held) (end : Result Progress SearchStop) → y ≡ x + a → EndsAs y b s end → EndsAs x (a + b) s end
ends_after x y a b s (Ok (progress.Optimal point value)) e h = h
ends_after x y a b s (Ok progress.Infeasible) e h = h
ends_after x y a b s (Ok (progress.Unbounded point direction)) e h = h
ends_after x y a b s (Ok progress.More) e h = ((let n = h.0 in omega (arith, n, e)), h.1, h.2)
ends_after x y a b s (Err (stop.WidePivot path basis leaves enters)) e h = (further x y a b s e h.0, h.1)
ends_after x y a b s (Err (stop.Budget n)) e h = h
ends_after x y a b s (Err stop.Memory) e h = (further x y a b s e h.0, h.1)

-- ---- the budget
spent_after : (us vs : List SearchUnit) (y z budget : ℕ) → z ≡ y + length vs → (us ≡ []) ⊎ (y ≤ budget) → (vs ≡ []) ⊎ (z ≤ budget) → (vs ++ us ≡ []) ⊎ (z ≤ budget)
spent_after us vs y z budget e f (inr h) = inr h
spent_after us vs y z budget e (inl f) (inl h) = inl (ap (λ (l : List SearchUnit). l ++ us) h ∙ f)
spent_after us vs y z budget e (inr f) (inl h) = inr (let n = ap length h in omega (arith, e, f, n))

joined : (rule : Rule) (first next last : List Message → Type 0) (a b : ℕ) (x y z : Held) (end : Result Progress SearchStop) → IsContinued rule (Hears first next) a x y
    → IsContinued rule (HearsUntil next last z.state end) b y z → IsContinued rule (HearsUntil first last z.state end) (a + b) x z
joined rule first next last a b x y z end t w =
    let f = subst (λ (m : Model). (l : Leads m rule y.state w.units z.state) × HearsUntil next last z.state end (trail_messages l)) t.model (w.leads, w.hears) in
    let j = join x.model rule x.state y.state t.units t.leads w.units z.state f.0 in
    record {
      units = w.units ++ t.units;
      leads = j.0;
      hears = subst (HearsUntil first last z.state end) (sym j.1) (heard_after first next last z.state end (trail_messages t.leads) (trail_messages f.0) t.hears f.1);
      counted = (let c = t.counted in let d = w.counted in let l = length-append w.units t.units in omega (arith, c, d, l));
      at_most = (let c = t.at_most in let d = w.at_most in let l = length-append w.units t.units in omega (arith, c, d, l));
      in_budget = spent_after t.units w.units y.units z.units x.budget w.counted t.in_budget (subst (λ (n : ℕ). (w.units ≡ []) ⊎ (z.units ≤ n)) t.budget w.in_budget);
      model = w.model ∙ t.model;
      budget = w.budget ∙ t.budget;
    }

pub slices_are_one_run : SlicesAreOneRun
slices_are_one_run rule first next last a b x y z end h k = record {
  trail = joined rule (AreHeard first) (AreHeard next) (AreHeard last) a b x y z end h.trail k.trail;
  ends = ends_after x.units y.units a b z end h.ends.0 k.ends;
}
