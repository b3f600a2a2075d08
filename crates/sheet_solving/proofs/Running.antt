-- A search that is run once more.
use Rattle.std.proofs.Common.{◌≡◌, ◌≤◌, ◌+◌, ◌∙◌, ◌⊎◌, inl, inr, ℕ, refl, sym, ap, ap₂, subst, arith, false, List, [], length, Result, Ok, Err, Option, Some, None}
use Rattle.node_pick.specs.Rules.{Rule, free}
use Rattle.node_pick.specs.Messages.{Message}
use Rattle.linear_models.specs.Model.{Model, IsValid}
use Rattle.searches.specs.Answers as answers
use Rattle.searches.specs.Trails as trails
use Rattle.branch_bound.specs.Searches.{Held, HasTrail, IsContinued}
use Rattle.branch_bound.specs.Ends.{EndsAs, IsAnswerOf, IsAnswered, HasOpenLeaf as HasLeaf}
use Rattle.branch_bound.specs.declared.progress.Progress.{Progress}
use Rattle.branch_bound.specs.declared.progress.Progress.TheVariants as progress
use Rattle.branch_bound.specs.declared.progress.SearchStop.{SearchStop}
use Rattle.branch_bound.specs.declared.progress.SearchStop.TheVariants as stop
use Rattle.sheet_solving.specs.Searches.{EndsWith, GoesFurther, HasOpenLeaf, HasUnits, Opened, Searched, Task, led_to, task_from, total}
use Rattle.sheet_solving.specs.Inner.{Answered, ComesTo, IsKept, Runs, answer_in, opened_of}
use Rattle.sheet_solving.proofs.Paths.{steps_below}

-- ---- units
within_budget : (us : List trails.SearchUnit) (n before budget : ℕ) → n ≡ before + length us → (us ≡ []) ⊎ (n ≤ budget) → (us ≡ []) ⊎ (before + length us ≤ budget)
within_budget us n before budget e (inl h) = inl h
within_budget us n before budget e (inr h) = inr (omega (arith, e, h))

-- what goes on with a search of so many units
abbrev task : Rule → ℕ → Held → Task
task rule units before = task_from rule (opened_of before) units before.budget

-- the units of a run
abbrev searched : {rule : Rule} {units : ℕ} {heard : List Message → Type 0} {before after : Held} → IsContinued rule heard units before after → Searched (task rule units before) before.model
searched {before = before} {after = after} c = record {
  units = c.units;
  state = after.state;
  leads = c.leads;
  asked = c.at_most;
  within = within_budget c.units after.units before.units before.budget c.counted c.in_budget;
}

at : Model → ℕ → trails.State → Opened
at m n s = record { model = m; units = n; state = s }

led : {rule : Rule} {units : ℕ} {heard : List Message → Type 0} {before after : Held} (c : IsContinued rule heard units before after) → opened_of after ≡ led_to (searched c)
unfolding at
led {after = after} c = ap₂ (λ (m : Model) (n : ℕ). at m n after.state) c.model c.counted

further : {rule : Rule} {units : ℕ} {heard : List Message → Type 0} {before after : Held} → IsContinued rule heard units before after → GoesFurther (task rule units before) before.model (opened_of after)
further c = (searched c, led c)

-- ---- answers
answered : {rule : Rule} {units : ℕ} {heard : List Message → Type 0} {before after : Held} {a : answers.Answer} (c : IsContinued rule heard units before after) → IsAnswered after a
    → Answered (task rule units before) before.model (opened_of after) a
answered {after = after} {a = a} c h = record {
  search = searched c;
  led = led c;
  ends = record {
    at_rest = h.ended.at_rest;
    over = subst (λ (k : Model). trails.IsOver k after.state) c.model h.ended.over;
    says = subst (λ (k : Model). answers.Says k after.state a) c.model h.says;
  };
  is_true = subst (λ (k : Model). answers.IsTrueOf k a) c.model h.is_true;
}

open_leaf : (m : Model) (after : Held) → after.model ≡ m → HasLeaf after → HasOpenLeaf m after.state
open_leaf m after e leaf = λ over. leaf.not_ended record { at_rest = over.0; over = subst (λ (k : Model). trails.IsOver k after.state) (sym e) over.1 }

comes_to : (rule : Rule) (units : ℕ) (heard : List Message → Type 0) (before after : Held) (p : Progress) → IsContinued rule heard units before after → EndsAs before.units units after (Ok p)
    → ComesTo (task rule units before) before.model (opened_of after) (answer_in p)
comes_to rule units heard before after (progress.Optimal point value) c h = answered c h
comes_to rule units heard before after progress.Infeasible c h = answered c h
comes_to rule units heard before after (progress.Unbounded point direction) c h = answered c h
comes_to rule units heard before after progress.More c h =
    let n = h.0 in
    let l = h.1 in
    let k = c.counted in
    let b = c.budget in
    record { search = searched c; led = led c; asked = omega (arith, n, k); within = omega (arith, l, k, b); leaf = open_leaf before.model after c.model h.2 }

-- why it stops
stops : (rule : Rule) (units : ℕ) (heard : List Message → Type 0) (before after : Held) (e : SearchStop) → IsValid before.model → HasTrail after.model after.units after.state
    → IsContinued rule heard units before after → EndsAs before.units units after (Err e) → Runs (task rule units before) before.model (opened_of after) (Err e)
stops rule units heard before after (stop.WidePivot path basis leaves enters) valid t c h =
    let a = h.0.asked in
    let i = h.0.in_budget in
    let k = c.counted in
    let b = c.budget in
    record {
      search = searched c;
      led = led c;
      wide = h.1;
      left = record { asked = omega (arith, a, k); within = omega (arith, i, k, b) };
      decisions = steps_below before.model free t.units after.state path.items basis.items leaves enters valid (subst (λ (m : Model). trails.Trail m free t.units after.state) c.model t.trail) h.1;
    }
stops rule units heard before after (stop.Budget n) valid t c h =
    let a = h.0 in
    let w = h.1 in
    let k = c.counted in
    let b = c.budget in
    record { search = searched c; led = led c; spent = omega (arith, a, k); whole = omega (arith, a, w, b); leaf = open_leaf before.model after c.model h.2 }
stops rule units heard before after stop.Memory valid t c h = further c

-- the same of a search whose budget is set first
pub comes_on : (rule : Rule) (units budget : ℕ) (heard : List Message → Type 0) (first before after : Held) (p : Progress) (answer : Option Progress) → before ≡ record first { budget = budget } → answer ≡ answer_in p
    → IsContinued rule heard units before after → EndsAs before.units units after (Ok p) → ComesTo (task_from rule (opened_of first) units budget) first.model (opened_of after) answer
comes_on rule units budget heard first before after p answer is told c h =
    subst (λ (a : Option Progress). ComesTo (task_from rule (opened_of first) units budget) first.model (opened_of after) a) (sym told)
    (comes_to rule units heard (record first { budget = budget }) after p (subst (λ (b : Held). IsContinued rule heard units b after) is c) (subst (λ (b : Held). EndsAs b.units units after (Ok p)) is h))

pub stops_on : (rule : Rule) (units budget : ℕ) (heard : List Message → Type 0) (first before after : Held) (e : SearchStop) (lent : Model) → before ≡ record first { budget = budget } → lent ≡ before.model → IsValid lent
    → HasTrail after.model after.units after.state → IsContinued rule heard units before after → EndsAs before.units units after (Err e)
    → Runs (task_from rule (opened_of first) units budget) first.model (opened_of after) (Err e)
stops_on rule units budget heard first before after e lent is same valid t c h =
    stops rule units heard (record first { budget = budget }) after e (subst IsValid (same ∙ ap (λ (b : Held). b.model) is) valid) t
    (subst (λ (b : Held). IsContinued rule heard units b after) is c) (subst (λ (b : Held). EndsAs b.units units after (Err e)) is h)

-- ---- a search that has ended stays as it is
no_more : (n : ℕ) → n ≡ n + 0
no_more n = omega arith

rested : (rule : Rule) (s : Held) (units budget : ℕ) (a : answers.Answer) → IsAnswered s a → Answered (task_from rule (opened_of s) units budget) s.model (opened_of s) a
unfolding at
rested rule s units budget a h = record {
  search = record { units = []; state = s.state; leads = trails.stays; asked = omega arith; within = inl refl };
  led = ap₂ (λ (m : Model) (n : ℕ). at m n s.state) refl (no_more s.units);
  ends = record { at_rest = h.ended.at_rest; over = h.ended.over; says = h.says };
  is_true = h.is_true;
}

pub rests : (rule : Rule) (s : Held) (units budget : ℕ) (p : Progress) → IsAnswerOf s p → ComesTo (task_from rule (opened_of s) units budget) s.model (opened_of s) (Some p)
rests rule s units budget (progress.Optimal point value) h = rested rule s units budget _ h
rests rule s units budget progress.Infeasible h = rested rule s units budget _ h
rests rule s units budget (progress.Unbounded point direction) h = rested rule s units budget _ h
rests rule s units budget progress.More h = absurd h

-- ---- what is kept
pub kept_after : (before units : ℕ) (after : Held) (p : Progress) → EndsAs before units after (Ok p) → IsKept after (answer_in p)
kept_after before units after (progress.Optimal point value) h = h
kept_after before units after progress.Infeasible h = h
kept_after before units after (progress.Unbounded point direction) h = h
kept_after before units after progress.More h = h.2.not_given

pub unanswered : (before units : ℕ) (after : Held) (e : SearchStop) → EndsAs before units after (Err e) → after.answered ≡ false
unanswered before units after (stop.WidePivot path basis leaves enters) h = h.0.leaf.not_given
unanswered before units after (stop.Budget n) h = h.2.not_given
unanswered before units after stop.Memory h = h.0.leaf.not_given
