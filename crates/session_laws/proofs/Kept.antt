-- Open searches stand where trails have led: at first, after every command, and where memory ran out.
use Rattle.std.proofs.Common.{◌≡◌, ◌∙◌, ◌++◌, ◌⊎◌, inl, inr, ℕ, zero, suc, List, [], ◌∷◌, length, length-append, Option, Some, None, Result, Ok, Err, refl, sym, ap, subst, arith, get_or, set}
use Rattle.std.specs.Prelude.{replicate}
use Rattle.cell_refs.specs.declared.cell.Cell.{Cell}
use Rattle.cell_refs.specs.Names.{place_in}
use Rattle.linear_models.specs.Model.{Model}
use Rattle.node_pick.specs.Rules.{Rule, free}
use Rattle.searches.specs.Trails.{start, stays}
use Rattle.searches.proofs.Slices.{free_leads, slices_join}
use Rattle.branch_bound.specs.Searches.{HasTrail}
use Rattle.solver_names.specs.Statement.{Statement}
use Rattle.session.specs.FromSheetLinearModel.{Prepared}
use Rattle.session.specs.FromSheetSolving.{Opened, Searched, Task, total, whole_task}
use Rattle.commands.specs.declared.answer.Answer.{Answer}
use Rattle.commands.specs.declared.answer.Answer.TheVariants as answer
use Rattle.commands.specs.Commands.{Spoken, Set, Clear, Name, Unname, Show, Model as ToModel, Solve, Prices, Begin, Slice, Stop, Budget, Cert, Save, Unknown}
use Rattle.commands.specs.Locating.{cell_named, sheet_named, units_named}
use Rattle.session.specs.Cuts.{Begins, Cut, HasWritten, IsUnderWay, Resumes, Sliced, Slices, cut_of, sheet_to_begin, sheet_to_stop}
use Rattle.session.specs.Edits.{cell_to_set, home_to_name, home_to_unname}
use Rattle.session.specs.Interrupted.{IsInterrupted}
use Rattle.session.specs.Certificates.{TellsCertificate}
use Rattle.session.specs.Prices.{TellsPrices}
use Rattle.session.specs.Saves.{Saves}
use Rattle.session.specs.Solves.{SearchEnds, WithModel, with_written}
use Rattle.session.specs.States.{SessionState, open_search}
use Rattle.session.specs.Steps.{Applies, Does, Shows, Step, once_written}
use Rattle.session_laws.specs.Laws.{SearchesHaveTrails, TrailsAreKept}
use Rattle.session_laws.proofs.Named.{is_open}

-- ---- lists of searches
abbrev Stands : Opened → Type 0
Stands search = HasTrail search.model search.units search.state

abbrev AllStand : List (Option Opened) → Type 0
AllStand searches = (place : ℕ) (search : Opened) → get_or searches place None ≡ Some search → Stands search

-- what stands at a place is what was put there, or what stood there before
put_in : (searches : List (Option Opened)) (i place : ℕ) (o : Option Opened) (search : Opened) → get_or (set searches i o) place None ≡ Some search → (o ≡ Some search) ⊎ (get_or searches place None ≡ Some search)
put_in [] i place o search e = inr e
put_in (x ∷ xs) zero zero o search e = inl e
put_in (x ∷ xs) zero (suc place) o search e = inr e
put_in (x ∷ xs) (suc i) zero o search e = inr e
put_in (x ∷ xs) (suc i) (suc place) o search e = put_in xs i place o search e

none_in : (n place : ℕ) (search : Opened) → get_or (replicate n None) place None ≡ Some search → ⊥
none_in zero place search e = absurd cc
none_in (suc n) zero search e = absurd cc
none_in (suc n) (suc place) search e = none_in n place search e

same_stand : (searches after : List (Option Opened)) → AllStand searches → after ≡ searches → AllStand after
same_stand searches after h e = subst (λ (l : List (Option Opened)). AllStand l) (sym e) h

put_stands : (searches after : List (Option Opened)) (i : ℕ) (o : Option Opened) → AllStand searches → ((search : Opened) → o ≡ Some search → Stands search) → after ≡ set searches i o → AllStand after
put_stands searches after i o h new e = same_stand (set searches i o) after (λ place search is. elim (put_in searches i place o search is) [ inl q ↦ new search q | inr q ↦ h place search q ]) e

one_put : (searches after : List (Option Opened)) (i : ℕ) (new : Opened) → AllStand searches → Stands new → after ≡ set searches i (Some new) → AllStand after
one_put searches after i new h stands e = put_stands searches after i (Some new) h (λ search is. subst (λ (s : Opened). Stands s) (some_is is) stands) e
  where
    some_is : {x y : Opened} → Some x ≡ Some y → x ≡ y
    some_is e = cc

none_put : (searches after : List (Option Opened)) (i : ℕ) → AllStand searches → after ≡ set searches i None → AllStand after
none_put searches after i h e = put_stands searches after i None h (λ search is. absurd cc) e

-- ---- units of a task
led_on : (task : Task) (m : Model) (t : Searched task m) → HasTrail m task.spent task.from → HasTrail m (total t) t.state
led_on task m t h = record {
  units = t.units ++ h.units;
  trail = slices_join m free start task.from h.units t.units t.state h.trail (free_leads m task.rule task.from t.units t.state t.leads);
  count = let k : length h.units ≡ task.spent = h.count in omega (arith, k, length-append t.units h.units);
}

at_start : (m : Model) → HasTrail m 0 start
at_start m = record { units = []; trail = stays; count = refl }

resumed : (rule : Rule) (before : SessionState) (c : Cut) (p : Prepared) (task : Task) → HasTrail c.search.model c.search.units c.search.state → Resumes rule before c p task → HasTrail p.model task.spent task.from
resumed rule before c p task has (inl h) =
    subst (λ (t : Task). HasTrail p.model t.spent t.from) (sym h.1) (subst (λ (m : Model). HasTrail m c.search.units c.search.state) h.0 has)
resumed rule before c p task has (inr h) = subst (λ (t : Task). HasTrail p.model t.spent t.from) (sym h.1) (at_start p.model)

-- ---- commands
written_leaves : (a : Answer) (cells : List Cell) (s : SessionState) → (with_written a cells s).searches ≡ s.searches
written_leaves (answer.Optimal value) cells s = refl
written_leaves _ cells s = refl

saved_leaves : (a : Answer) (s : SessionState) → (once_written a s).searches ≡ s.searches
saved_leaves (answer.ToSave files) s = refl
saved_leaves _ s = refl

does : {A : Type 0} (P : Type 0) (Act : A → Answer → SessionState → Type 0) (before : SessionState) (x : Result A Answer) (a : Answer) (after : SessionState)
    → ((y : A) → x ≡ Ok y → Act y a after → P) → (after ≡ before → P) → Does Act before x a after → P
does P Act before (Ok x) a after h g d = h x refl d
does P Act before (Err r) a after h g d = g d.1

with_model : (P : Type 0) (Act : Prepared → Answer → SessionState → Type 0) (before : SessionState) (i : ℕ) (a : Answer) (after : SessionState) → ((p : Prepared) → Act p a after → P) → (after ≡ before → P)
    → WithModel Act before i a after → P
with_model P Act before i (answer.Names fault) after h g w = g w.1
with_model P Act before i (answer.Form refusal) after h g w = g w.1
with_model P Act before i (answer.WideRow row) after h g w = g w.1
with_model P Act before i a after h g w = h w.0 w.2

shows : (before : SessionState) (c : Cell) (a : Answer) (after : SessionState) → Shows before c a after → after ≡ before
shows before c (answer.Shown v) after h = h.1
shows before c (answer.WideCell w) after h = h.1
shows before c _ after h = absurd h

saves : (before : SessionState) (a : Answer) (after : SessionState) → Saves before a after → after ≡ before
saves before (answer.ToSave files) after h = h.1
saves before _ after h = absurd h

ends : (task : Task) (before : SessionState) (s : Statement) (m : Model) (a : Answer) (after : SessionState) → SearchEnds task before s m a after → after.searches ≡ before.searches
ends task before s m a after h = ap (λ (s : SessionState). s.searches) h.2 ∙ written_leaves a s.decisions (record before { book = h.0 })

module _ (before after : SessionState) (stand : AllStand before.searches) where
  stays_same : after ≡ before → AllStand after.searches
  stays_same e = same_stand before.searches after.searches stand (ap (λ (s : SessionState). s.searches) e)

  becomes : (next : SessionState) → next.searches ≡ before.searches → after ≡ next → AllStand after.searches
  becomes next h e = same_stand before.searches after.searches stand (ap (λ (s : SessionState). s.searches) e ∙ h)

  sliced : (task : Task) (i : ℕ) (p : Prepared) (a : Answer) → HasTrail p.model task.spent task.from → Sliced task before i p a after → AllStand after.searches
  sliced task i p (answer.More n) trail h = one_put before.searches after.searches i _ stand (led_on task p.model h.0 trail) (ap (λ (s : SessionState). s.searches) h.5)
  sliced task i p a trail h =
      none_put before.searches after.searches i stand
      (ap (λ (s : SessionState). s.searches) h.2 ∙ ap (λ (l : List (Option Opened)). set l i None) (ends task before p.statement p.model a h.0 h.1))

  slices : (rule : Rule) (c : Cut) (p : Prepared) (a : Answer) → get_or before.searches c.sheet None ≡ Some c.search → Slices rule before c p a after → AllStand after.searches
  slices rule c p a is h = sliced h.0 c.sheet p a (resumed rule before c p h.0 (stand c.sheet c.search is) h.1) h.2

  applies : (rule : Rule) (command : Spoken) (a : Answer) → Applies rule before command a after → AllStand after.searches
  applies rule (Set address text) a h = does _ _ before (cell_to_set before.book address text) a after (λ c e d. becomes _ refl d.1) stays_same h
  applies rule (Clear address) a h = does _ _ before (cell_named before.book.sheets address) a after (λ c e d. becomes _ refl d.1) stays_same h
  applies rule (Name home name text) a h = does _ _ before (home_to_name before.book home name text) a after (λ c e d. becomes _ refl d.1) stays_same h
  applies rule (Unname home name) a h = does _ _ before (home_to_unname before.book home name) a after (λ c e d. becomes _ refl d.1) stays_same h
  applies rule (Show address) a h = does _ _ before (cell_named before.book.sheets address) a after (λ c e d. stays_same (shows before c a after d)) stays_same h
  applies rule (ToModel name) a h = does _ _ before (sheet_named before.book.sheets name) a after (λ c e d. stays_same d.1) stays_same h
  applies rule (Solve name) a h =
      does _ _ before (sheet_named before.book.sheets name) a after
      (λ i e w. with_model (AllStand after.searches) (λ (p : Prepared). SearchEnds (whole_task rule before.budget) before p.statement p.model) before i a after
      (λ p d. same_stand before.searches after.searches stand (ends (whole_task rule before.budget) before p.statement p.model a after d))
      stays_same w)
      stays_same h
  applies rule (Prices name) a h =
      does _ _ before (sheet_named before.book.sheets name) a after (λ i e w. with_model (AllStand after.searches) (TellsPrices before) before i a after (λ p d. stays_same d.2) stays_same w) stays_same h
  applies rule (Cert name) a h =
      does _ _ before (sheet_named before.book.sheets name) a after (λ i e w. with_model (AllStand after.searches) (TellsCertificate rule before) before i a after (λ p d. stays_same d.1) stays_same w) stays_same h
  applies rule (Begin name) a h =
      does _ _ before (sheet_to_begin before name) a after
      (λ i e w. with_model (AllStand after.searches) (Begins before i) before i a after
      (λ p d. one_put before.searches after.searches i _ stand (at_start p.model) (ap (λ (s : SessionState). s.searches) d.1))
      stays_same w)
      stays_same h
  applies rule (Slice name units) a h =
      does _ _ before (cut_of before name units) a after
      (λ (c : Cut) e w. with_model (AllStand after.searches) (Slices rule before c) before c.sheet a after
      (λ p d. slices rule c p a (is_open (open_search before) (units_named units) (place_in before.book.sheets name) c e) d)
      stays_same w)
      stays_same h
  applies rule (Stop name) a h =
      does _ _ before (sheet_to_stop before name) a after (λ i e d. none_put before.searches after.searches i stand (ap (λ (s : SessionState). s.searches) d.1)) stays_same h
  applies rule (Budget units) a h = does _ _ before (units_named units) a after (λ c e d. becomes _ refl d.1) stays_same h
  applies rule Save a h = stays_same (saves before a after h)
  applies rule Unknown a h = stays_same h.1

-- ---- sessions
pub steps_keep : (rule : Rule) (before after : SessionState) (command : Spoken) (a : Answer) → SearchesHaveTrails before → Step rule before command a after → SearchesHaveTrails after
steps_keep rule before after command a h step =
    same_stand step.0.searches after.searches (applies before step.0 h rule command a step.1) (ap (λ (s : SessionState). s.searches) step.2 ∙ saved_leaves a step.0)

opened_stand : (n : ℕ) → AllStand (replicate n None)
opened_stand n place search e = absurd (none_in n place search e)

module _ (rule : Rule) (before after : SessionState) (stand : SearchesHaveTrails before) where
  untouched : after ≡ before → SearchesHaveTrails after
  untouched e = subst (λ (s : SessionState). SearchesHaveTrails s) (sym e) stand

  applied : (command : Spoken) → (after ≡ before) ⊎ ((a : Answer) × Applies rule before command a after) → SearchesHaveTrails after
  applied command (inl e) = untouched e
  applied command (inr (a, h)) = same_stand after.searches after.searches (applies before after stand rule command a h) refl

  -- what is written beside the searches leaves them
  beside : (c : Cut) (written : SessionState) → HasWritten rule before c written → written.searches ≡ before.searches
  beside c written (inl e) = ap (λ (s : SessionState). s.searches) e
  beside c written (inr (a, answered, h, e)) = ap (λ (s : SessionState). s.searches) e

  under_way : (c : Cut) → HasTrail c.search.model c.search.units c.search.state → IsUnderWay rule before c after → SearchesHaveTrails after
  under_way c has (written, contents, inl e) = same_stand before.searches after.searches stand (ap (λ (s : SessionState). s.searches) e ∙ beside c written contents)
  under_way c has (written, contents, inr w) =
      let trail = subst (λ (m : Model). HasTrail m c.search.units c.search.state) w.same has in
      one_put before.searches after.searches c.sheet w.search stand (subst (λ (s : Opened). Stands s) (sym w.further.1) (led_on _ w.prepared.model w.further.0 trail))
      (ap (λ (s : SessionState). s.searches) w.after_is ∙ ap (λ (l : List (Option Opened)). set l c.sheet (Some w.search)) (beside c written contents))

  interrupted : (command : Spoken) → IsInterrupted rule before command after → SearchesHaveTrails after
  interrupted (Slice name units) (inl h) = untouched h.1
  interrupted (Slice name units) (inr h) =
      under_way h.0 (stand h.0.sheet h.0.search (is_open (open_search before) (units_named units) (place_in before.book.sheets name) h.0 h.1)) h.2
  interrupted (Set address text) h = applied (Set address text) h.1
  interrupted (Name sheet name text) h = applied (Name sheet name text) h.1
  interrupted (Unname sheet name) h = applied (Unname sheet name) h.1
  interrupted (Solve sheet) h = applied (Solve sheet) h.1
  interrupted command h = untouched h.1

pub trails_are_kept : TrailsAreKept
trails_are_kept = record {
  opened = λ book budget. opened_stand (length book.sheets);
  steps = steps_keep;
  interrupted = λ rule before after command stand h. interrupted rule before after stand command h;
}
