-- Units one after the other.
use Rattle.std.proofs.Common.{◌≡◌, ℕ, ◌+◌, ◌≤◌, ◌∙◌, ◌⊎◌, inl, inr, refl, sym, subst, List, [], ◌∷◌, length, arith, append-nil}
use Rattle.node_pick.specs.Rules.{Rule}
use Rattle.node_pick.specs.Messages.{Message, Hears, question}
use Rattle.linear_models.specs.Model.{Model}
use Rattle.searches.specs.Trails.{State, SearchUnit, Leads, stays, grows}
use Rattle.searches.specs.Messages.{trail_messages, unit_messages}
use Rattle.std.specs.Prelude.{Err, true, map}
use Rattle.searches.specs.Trees.{info}
use Rattle.branch_bound.specs.Searches.{Held, IsContinued, IsStepStop}
use Rattle.branch_bound.specs.declared.search.StepStop.{StepStop}
use Rattle.branch_bound.specs.declared.search.StepStop.TheVariants as step
use Rattle.branch_bound.specs.Ends.{MayGoOn, EndsAs, HearsUntil}
use Rattle.branch_bound.specs.Told.{Grew, HearsStop, IsStopOf}
use Rattle.branch_bound.proofs.Hearing.{hears_none, hears_then}
use Rattle.branch_bound.specs.declared.progress.SearchStop.{SearchStop}
use Rattle.branch_bound.specs.declared.progress.SearchStop.TheVariants as stop

-- some units lead on, counted
pub record LedBy (m : Model) (rule : Rule) (s t : State) (heard : List Message → Type 0) (before units spent : ℕ) : Type 0 where
  pub made : List SearchUnit
  pub leads : Leads m rule s made t
  pub hears : heard (trail_messages leads)
  pub counted : units ≡ before + length made
  pub spent_is : length made ≡ spent

pub none_yet : (m : Model) (rule : Rule) (s : State) (first : List Message → Type 0) (n : ℕ) → LedBy m rule s s (Hears first first) n n 0
none_yet m rule s first n = record { made = []; leads = stays; hears = hears_none first; counted = omega arith; spent_is = refl }

pub one_more : (m m' : Model) (rule rule' : Rule) (s t t' : State) (first next last : List Message → Type 0) (before units units' spent : ℕ) → LedBy m rule s t (Hears first next) before units spent → m' ≡ m
    → rule' ≡ rule → Grew m' rule' t t' (Hears next last) → units' ≡ units + 1 → LedBy m rule s t' (Hears first last) before units' (spent + 1)
one_more m m' rule rule' s t t' first next last before units units' spent l e r g n =
    let g1 : Grew m rule' t t' (Hears next last) = subst (λ (x : Model). Grew x rule' t t' (Hears next last)) e g in
    let g2 : Grew m rule t t' (Hears next last) = subst (λ (x : Rule). Grew m x t t' (Hears next last)) r g1 in
    let a = l.counted in
    let b = l.spent_is in
    record {
      made = g2.unit ∷ l.made;
      leads = grows l.made t g2.unit t' l.leads g2.grows;
      hears = hears_then first next last (trail_messages l.leads) (unit_messages g2.grows) l.hears g2.hears;
      counted = omega (arith, a, n);
      spent_is = omega (arith, b);
    }

none_are : (us : List SearchUnit) → length us ≡ 0 → us ≡ []
none_are [] e = refl
none_are (u ∷ us) e = absurd (omega (arith, e))

pub continued : (rule : Rule) (heard : List Message → Type 0) (asked spent : ℕ) (before after : Held) → LedBy before.model rule before.state after.state heard before.units after.units spent → spent ≤ asked
    → (spent ≡ 0) ⊎ (after.units ≤ before.budget) → after.model ≡ before.model → after.budget ≡ before.budget → IsContinued rule heard asked before after
continued rule heard asked spent before after l k y e h = record {
  units = l.made;
  leads = l.leads;
  hears = l.hears;
  counted = l.counted;
  at_most = (let b = l.spent_is in omega (arith, b, k));
  in_budget = elim y [ inl z ↦ inl (none_are l.made (l.spent_is ∙ z)) | inr z ↦ inr z ];
  model = e;
  budget = h;
}

-- why no unit was made, where one might be
pub stop_ends : (before units : ℕ) (s : Held) (t : SearchStop) → MayGoOn before units s → IsStopOf s t → EndsAs before units s (Err t)
stop_ends before units s (stop.WidePivot path basis leaves enters) m h = (m, h)
stop_ends before units s (stop.Budget n) m h = absurd h
stop_ends before units s stop.Memory m h = (m, h)

pub answered_too : (rule : Rule) (heard : List Message → Type 0) (asked : ℕ) (before after told : Held) → told ≡ record after { answered = true } → IsContinued rule heard asked before after → IsContinued rule heard asked before told
answered_too rule heard asked before after told e h = subst (λ (s : Held). IsContinued rule heard asked before s) (sym e) (kept h)
  where
    kept : IsContinued rule heard asked before after → IsContinued rule heard asked before (record after { answered = true })
    kept h = record { units = h.units; leads = h.leads; hears = h.hears; counted = h.counted; at_most = h.at_most; in_budget = h.in_budget; model = h.model; budget = h.budget }

-- ---- what is heard where no unit was made
stop_heard : (first next last : List Message → Type 0) (s : Held) (e : StepStop) (t : SearchStop) (ms : List Message) → Hears first next ms → HearsStop next last s.state e → IsStepStop s.state e → IsStopOf s t
    → HearsUntil first last s.state (Err t) ms
stop_heard first next last s (step.Wide row column) t ms f g i j = by_stop t j
  where
    same : Hears first last ms
    same = subst (Hears first last) (append-nil ms) (hears_then first next last ms [] f g)

    by_stop : (t : SearchStop) → IsStopOf s t → HearsUntil first last s.state (Err t) ms
    by_stop (stop.WidePivot path basis leaves enters) j = same
    by_stop (stop.Budget n) j = absurd j
    by_stop stop.Memory j = inl same
stop_heard first next last s step.Memory (stop.WidePivot path basis leaves enters) ms f g i j = absurd (let q = j.1 in cc)
stop_heard first next last s step.Memory (stop.Budget n) ms f g i j = absurd j
stop_heard first next last s step.Memory stop.Memory ms f g i j = inr (g.place, hears_then first next last ms (question (map info s.state.waiting) g.place ∷ []) f g.hears)

pub stop_continued : (rule : Rule) (first next last : List Message → Type 0) (asked spent : ℕ) (before mid after : Held) (e : StepStop) (t : SearchStop)
    → LedBy before.model rule before.state mid.state (Hears first next) before.units mid.units spent → HearsStop next last mid.state e → after ≡ mid → IsStepStop after.state e → IsStopOf after t → spent ≤ asked
    → (spent ≡ 0) ⊎ (mid.units ≤ before.budget) → mid.model ≡ before.model → mid.budget ≡ before.budget → IsContinued rule (HearsUntil first last after.state (Err t)) asked before after
stop_continued rule first next last asked spent before mid after e t l h q i j k y m b =
    subst (λ (s : Held). IsStepStop s.state e → IsStopOf s t → IsContinued rule (HearsUntil first last s.state (Err t)) asked before s) (sym q) here i j
  where
    here : IsStepStop mid.state e → IsStopOf mid t → IsContinued rule (HearsUntil first last mid.state (Err t)) asked before mid
    here i j =
        continued rule (HearsUntil first last mid.state (Err t)) asked spent before mid record {
          made = l.made;
          leads = l.leads;
          hears = stop_heard first next last mid e t (trail_messages l.leads) l.hears h i j;
          counted = l.counted;
          spent_is = l.spent_is;
        } k y m b
