-- What slices leave of searches, and what their records name.
use Rattle.std.proofs.Common.{◌≡◌, ◌≢◌, ◌<◌, ◌≤◌, ◌∙◌, ◌⊎◌, inl, inr, ℕ, zero, suc, Bool, true, false, List, [], ◌∷◌, length, Option, Some, None, Result, Ok, Err, ap, refl, subst, sym, get_or, set}
use Rattle.std.specs.Prelude.{IfOk, OnErr, filter, if◌then◌else◌, is_some, nat_le, unwrap_or}
use Rattle.std.specs.Option.{option_map}
use Rattle.std.proofs.lemmas.Bool.{le-leb, lt-leb}
use Rattle.std.proofs.lemmas.List.{set-set}
use Rattle.linear_models.specs.Model.{Model}
use Rattle.node_pick.specs.Rules.{Rule}
use Rattle.cell_refs.specs.declared.cell.SheetId.{SheetId}
use Rattle.cell_refs.specs.Names.{place_in}
use Rattle.sheet_linear_model.specs.Prepared.{IsPrepared, Prepared}
use Rattle.kept_book.specs.FromSheetSolving.{GoesFurther, Opened, Task, begun, task_from}
use Rattle.commands.specs.declared.answer.Answer.{Answer}
use Rattle.commands.specs.declared.answer.Answer.TheVariants as answer
use Rattle.commands.specs.Commands.{Slice, Spoken}
use Rattle.commands.specs.Locating.{or_bad, or_unknown}
use Rattle.cell_refs.specs.Units.{units_in}
use Rattle.session.specs.Cuts.{Begins, Cut, IsUnderWay, Sliced, Slices, cut, cut_of, search_or, sheet_to_begin, sheet_to_stop}
use Rattle.session.specs.Edits.{and_then}
use Rattle.session.specs.Inner.{Spends, search_after}
use Rattle.session.specs.Interrupted.{IsAllowed, IsInterrupted}
use Rattle.session.specs.Solves.{WithModel, with_written}
use Rattle.workbook.specs.State.{State}
use Rattle.cell_refs.specs.declared.cell.Cell.{Cell}
use Rattle.session.specs.States.{SessionState, open_search, other_searches, with_book, with_changed, with_search, without_search}
use Rattle.session.specs.Steps.{Does}
use Rattle.session.specs.declared.open_searches.TheConstants.{MOST_SEARCHES}
use Rattle.session.proofs.Said.{if_ok_map}
use Rattle.solver_names.specs.Statement.{Statement}

-- ---- counting
-- how many are there, but for one that is there
pub others_of_open : {A : Type 0} (xs : List (Option A)) (i : ℕ) → is_some (get_or xs i None) ≡ true → length (filter is_some xs) ≡ suc (length (filter is_some (set xs i None)))
others_of_open [] i h = absurd cc
others_of_open (None ∷ xs) zero h = absurd cc
others_of_open (Some x ∷ xs) zero h = refl
others_of_open (None ∷ xs) (suc i) h = others_of_open xs i h
others_of_open (Some x ∷ xs) (suc i) h = ap suc (others_of_open xs i h)

-- and for one that isn't
pub others_of_none : {A : Type 0} (xs : List (Option A)) (i : ℕ) → is_some (get_or xs i None) ≡ false → length (filter is_some xs) ≡ length (filter is_some (set xs i None))
others_of_none [] i h = refl
others_of_none (None ∷ xs) zero h = refl
others_of_none (Some x ∷ xs) zero h = absurd cc
others_of_none (None ∷ xs) (suc i) h = others_of_none xs i h
others_of_none (Some x ∷ xs) (suc i) h = ap suc (others_of_none xs i h)

-- ---- searches
pub some_of : {A : Type 0} (o : Option A) → is_some o ≡ true → (x : A) × (o ≡ Some x)
some_of None h = absurd cc
some_of (Some x) h = (x, refl)

pub none_of : {A : Type 0} (o : Option A) → is_some o ≡ false → o ≡ None
none_of None h = refl
none_of (Some x) h = absurd cc

pub same_search : (o : Option Opened) (x y : Opened) → o ≡ Some x → o ≡ Some y → x ≡ y
same_search o x y e f = ap (λ (o : Option Opened). unwrap_or o x) (sym e ∙ f)

-- the list of a session, and a place in it
pub asked_at : (s : SessionState) (l : List (Option Opened)) (i sheet : ℕ) → l ≡ s.searches → i ≡ sheet → get_or l i None ≡ open_search s sheet
asked_at s l i sheet e f = ap (λ (l : List (Option Opened)). get_or l i None) e ∙ ap (λ (i : ℕ). get_or s.searches i None) f

-- ---- what the records name
pub does : {A : Type 0} (Act : A → Answer → SessionState → Type 0) (before : SessionState) (x : Result A Answer) (y : A) (a : Answer) (after : SessionState) → x ≡ Ok y → Act y a after → Does Act before x a after
does Act before x y a after e h = subst (λ (x : Result _ Answer). Does Act before x a after) (sym e) h

pub refuses : {A : Type 0} (Act : A → Answer → SessionState → Type 0) (before : SessionState) (x : Result A Answer) (a : Answer) → x ≡ Err a → Does Act before x a before
refuses Act before x a e = subst (λ (x : Result _ Answer). Does Act before x a before) (sym e) (refl, refl)

pub allowed : {A : Type 0} (x : Result A Answer) (y : A) → x ≡ Ok y → IsAllowed x
allowed x y e = subst (λ (x : Result _ Answer). IsAllowed x) (sym e) tt

begin_by : (o : Option ℕ) (f : ℕ → Bool) → Result ℕ Answer
begin_by o f = and_then (or_unknown o) (λ sheet. if f sheet then Err answer.TooManySearches else Ok sheet)

begin_is : (o : Option ℕ) (f : ℕ → Bool) (sheet : ℕ) (b : Bool) → o ≡ Some sheet → f sheet ≡ b → begin_by o f ≡ (if b then Err answer.TooManySearches else Ok sheet)
unfolding begin_by
begin_is o f sheet b e h = rw (e, h) refl

begin_none : (o : Option ℕ) (f : ℕ → Bool) → o ≡ None → begin_by o f ≡ Err answer.UnknownSheet
unfolding begin_by
begin_none o f e = rw e refl

pub begins_nowhere : (s : SessionState) (name : List ℕ) → place_in s.book.sheets name ≡ None → sheet_to_begin s name ≡ Err answer.UnknownSheet
unfolding begin_by
begins_nowhere s name e = begin_none (place_in s.book.sheets name) (λ sheet. nat_le MOST_SEARCHES (other_searches s sheet)) e

pub begins_too_many : (s : SessionState) (name : List ℕ) (sheet : ℕ) → place_in s.book.sheets name ≡ Some sheet → MOST_SEARCHES ≤ other_searches s sheet
    → sheet_to_begin s name ≡ Err answer.TooManySearches
unfolding begin_by
begins_too_many s name sheet e h =
    begin_is (place_in s.book.sheets name) (λ sheet. nat_le MOST_SEARCHES (other_searches s sheet)) sheet true e (le-leb MOST_SEARCHES (other_searches s sheet) h)

pub begins_there : (s : SessionState) (name : List ℕ) (sheet : ℕ) → place_in s.book.sheets name ≡ Some sheet → other_searches s sheet < MOST_SEARCHES → sheet_to_begin s name ≡ Ok sheet
unfolding begin_by
begins_there s name sheet e h =
    begin_is (place_in s.book.sheets name) (λ sheet. nat_le MOST_SEARCHES (other_searches s sheet)) sheet false e (lt-leb MOST_SEARCHES (other_searches s sheet) h)

cut_by : (o u : Option ℕ) (f : ℕ → Option Opened) → Result Cut Answer
cut_by o u f = and_then (or_unknown o) (λ sheet. and_then (or_bad u) (λ units. and_then (search_or (f sheet)) (λ search. Ok (cut sheet units search))))

cut_nowhere : (o u : Option ℕ) (f : ℕ → Option Opened) → o ≡ None → cut_by o u f ≡ Err answer.UnknownSheet
unfolding cut_by
cut_nowhere o u f e = rw e refl

cut_bad : (o u : Option ℕ) (f : ℕ → Option Opened) (sheet : ℕ) → o ≡ Some sheet → u ≡ None → cut_by o u f ≡ Err answer.BadNumber
unfolding cut_by
cut_bad o u f sheet e h = rw (e, h) refl

cut_closed : (o u : Option ℕ) (f : ℕ → Option Opened) (sheet units : ℕ) → o ≡ Some sheet → u ≡ Some units → f sheet ≡ None → cut_by o u f ≡ Err answer.NoSearch
unfolding cut_by
cut_closed o u f sheet units e h k = rw (e, h, k) refl

cut_there : (o u : Option ℕ) (f : ℕ → Option Opened) (sheet units : ℕ) (search : Opened) → o ≡ Some sheet → u ≡ Some units → f sheet ≡ Some search → cut_by o u f ≡ Ok (cut sheet units search)
unfolding cut_by
cut_there o u f sheet units search e h k = rw (e, h, k) refl

pub cuts_nowhere : (s : SessionState) (name text : List ℕ) → place_in s.book.sheets name ≡ None → cut_of s name text ≡ Err answer.UnknownSheet
unfolding cut_by
cuts_nowhere s name text e = cut_nowhere (place_in s.book.sheets name) (units_in text) (open_search s) e

pub cuts_badly : (s : SessionState) (name text : List ℕ) (sheet : ℕ) → place_in s.book.sheets name ≡ Some sheet → units_in text ≡ None → cut_of s name text ≡ Err answer.BadNumber
unfolding cut_by
cuts_badly s name text sheet e h = cut_bad (place_in s.book.sheets name) (units_in text) (open_search s) sheet e h

pub cuts_none : (s : SessionState) (name text : List ℕ) (sheet units : ℕ) → place_in s.book.sheets name ≡ Some sheet → units_in text ≡ Some units → open_search s sheet ≡ None
    → cut_of s name text ≡ Err answer.NoSearch
unfolding cut_by
cuts_none s name text sheet units e h k = cut_closed (place_in s.book.sheets name) (units_in text) (open_search s) sheet units e h k

pub cuts_there : (s : SessionState) (name text : List ℕ) (sheet units : ℕ) (search : Opened) → place_in s.book.sheets name ≡ Some sheet → units_in text ≡ Some units → open_search s sheet ≡ Some search
    → cut_of s name text ≡ Ok (cut sheet units search)
unfolding cut_by
cuts_there s name text sheet units search e h k = cut_there (place_in s.book.sheets name) (units_in text) (open_search s) sheet units search e h k

stop_by : (o : Option ℕ) (f : ℕ → Option Opened) → Result ℕ Answer
stop_by o f = and_then (or_unknown o) (λ sheet. and_then (search_or (f sheet)) (λ search. Ok sheet))

stop_nowhere : (o : Option ℕ) (f : ℕ → Option Opened) → o ≡ None → stop_by o f ≡ Err answer.UnknownSheet
unfolding stop_by
stop_nowhere o f e = rw e refl

stop_none : (o : Option ℕ) (f : ℕ → Option Opened) (sheet : ℕ) → o ≡ Some sheet → f sheet ≡ None → stop_by o f ≡ Err answer.NoSearch
unfolding stop_by
stop_none o f sheet e h = rw (e, h) refl

stop_there : (o : Option ℕ) (f : ℕ → Option Opened) (sheet : ℕ) (search : Opened) → o ≡ Some sheet → f sheet ≡ Some search → stop_by o f ≡ Ok sheet
unfolding stop_by
stop_there o f sheet search e h = rw (e, h) refl

pub stops_nowhere : (s : SessionState) (name : List ℕ) → place_in s.book.sheets name ≡ None → sheet_to_stop s name ≡ Err answer.UnknownSheet
unfolding stop_by
stops_nowhere s name e = stop_nowhere (place_in s.book.sheets name) (open_search s) e

pub stops_none : (s : SessionState) (name : List ℕ) (sheet : ℕ) → place_in s.book.sheets name ≡ Some sheet → open_search s sheet ≡ None → sheet_to_stop s name ≡ Err answer.NoSearch
unfolding stop_by
stops_none s name sheet e h = stop_none (place_in s.book.sheets name) (open_search s) sheet e h

pub stops_there : (s : SessionState) (name : List ℕ) (sheet : ℕ) (search : Opened) → place_in s.book.sheets name ≡ Some sheet → open_search s sheet ≡ Some search → sheet_to_stop s name ≡ Ok sheet
unfolding stop_by
stops_there s name sheet search e h = stop_there (place_in s.book.sheets name) (open_search s) sheet search e h

-- ---- what is left of a search
-- put in twice, and taken out twice
pub put_twice : (s : SessionState) (sheet : ℕ) (o : Opened) → with_search (without_search s sheet) sheet o ≡ with_search s sheet o
put_twice s sheet o = ap (λ (l : List (Option Opened)). record s { searches = l }) (set-set s.searches sheet None (Some o))

taken_again : (s : SessionState) (sheet : ℕ) → without_search (without_search s sheet) sheet ≡ without_search s sheet
taken_again s sheet = ap (λ (l : List (Option Opened)). record s { searches = l }) (set-set s.searches sheet None None)

-- a sheet has what is left
abbrev pub with_left : SessionState → ℕ → Option Opened → SessionState
with_left s sheet x = record s { searches = set s.searches sheet x }

pub left_at : (s middle : SessionState) (i sheet : ℕ) (x y : Option Opened) → s ≡ middle → i ≡ sheet → x ≡ y → with_left s i x ≡ with_left middle sheet y
left_at s middle i sheet x y e f h =
    ap (λ (s : SessionState). with_left s i x) e ∙ (ap (λ (i : ℕ). with_left middle i x) f ∙ ap (λ (x : Option Opened). with_left middle sheet x) h)

-- the same where it was put into the list
pub put_at : (s middle : SessionState) (l : List (Option Opened)) (i sheet : ℕ) (x y : Option Opened) → s ≡ middle → l ≡ set s.searches i x → i ≡ sheet → x ≡ y
    → (record s { searches = l }) ≡ with_left middle sheet y
put_at s middle l i sheet x y e h f g = ap (λ (l : List (Option Opened)). record s { searches = l }) h ∙ left_at s middle i sheet x y e f g

-- and taken out of it
pub taken_at : (s before : SessionState) (l : List (Option Opened)) (i sheet : ℕ) → s ≡ before → l ≡ set s.searches i None → i ≡ sheet → (record s { searches = l }) ≡ without_search before sheet
taken_at s before l i sheet e h f = put_at s before l i sheet None None e h f refl

pub found_at : (s before : SessionState) (i sheet : ℕ) (o : Option Opened) (x : Opened) → s ≡ before → i ≡ sheet → o ≡ get_or s.searches i None → o ≡ Some x → open_search before sheet ≡ Some x
found_at s before i sheet o x e f h g = sym (asked_at before s.searches i sheet (ap (λ (s : SessionState). s.searches) e) f) ∙ (sym h ∙ g)

-- where an optimum is written apart from the search, it is written beside it
written_apart : (s : SessionState) (sheet : ℕ) (a : Answer) (cells : List Cell) (book : State)
    → without_search (with_written a cells (with_book (without_search s sheet) book)) sheet ≡ without_search (with_written a cells (with_book s book)) sheet
written_apart s sheet (answer.Optimal value) cells book = taken_again (with_changed (with_book s book) cells) sheet
written_apart s sheet _ cells book = taken_again (with_book s book) sheet

-- a search that was taken out, gone on with, and put back or not
pub gone_on : (task : Task) (before : SessionState) (sheet : ℕ) (p : Prepared) (a : Answer) (o : Opened) (middle after : SessionState)
    → Spends task (without_search before sheet) p.statement p.model a o middle → after ≡ with_left middle sheet (search_after a o) → Sliced task before sheet p a after
gone_on task before sheet p (answer.More n) o middle after h e = (
  h.1.0,
  h.1.1,
  h.1.2,
  h.1.3,
  h.1.4,
  e ∙ (ap (λ (m : SessionState). with_search m sheet o) (h.2 ∙ ap (λ (b : State). with_book (without_search before sheet) b) h.1.6)
      ∙ (put_twice before sheet o ∙ ap (λ (o : Opened). with_search before sheet o) h.1.5)),
)
gone_on task before sheet p a o middle after h e = (
  with_written a p.statement.decisions (with_book before h.0),
  (h.0, h.1, refl),
  e ∙ (ap (λ (m : SessionState). without_search m sheet) h.2 ∙ written_apart before sheet a p.statement.decisions h.0),
)

-- a search that was begun apart, and put in the place of the other, or not
begun_anew : (task : Task) (before : SessionState) (sheet : ℕ) (p : Prepared) (a : Answer) (o : Opened) (middle after : SessionState) → Spends task before p.statement p.model a o middle
    → after ≡ with_left middle sheet (search_after a o) → Sliced task before sheet p a after
begun_anew task before sheet p (answer.More n) o middle after h e = (
  h.1.0,
  h.1.1,
  h.1.2,
  h.1.3,
  h.1.4,
  e ∙ (ap (λ (m : SessionState). with_search m sheet o) (h.2 ∙ ap (λ (b : State). with_book before b) h.1.6) ∙ ap (λ (o : Opened). with_search before sheet o) h.1.5),
)
begun_anew task before sheet p a o middle after h e = (middle, h, e)

-- the same of a model that is known to be the sheet's
pub all_begun_anew : (rule : Rule) (before : SessionState) (sheet units : ℕ) (s : Statement) (a : Answer) (old new : Opened) (middle after : SessionState)
    → Spends (task_from rule old units before.budget) before s old.model a new middle → after ≡ with_left middle sheet (search_after a new) → (p : Prepared) → p.statement ≡ s → p.model ≡ old.model
    → Sliced (task_from rule old units before.budget) before sheet p a after
all_begun_anew rule before sheet units s a old new middle after h e p f g =
    begun_anew (task_from rule old units before.budget) before sheet p a new middle after
    (subst (λ (m : Model). Spends (task_from rule old units before.budget) before p.statement m a new middle) (sym g)
    (subst (λ (s : Statement). Spends (task_from rule old units before.budget) before s old.model a new middle) (sym f) h))
    e

-- the same where it was begun for that
pub all_begun : {E : Type 0} (rule : Rule) (before : SessionState) (sheet units : ℕ) (p : Prepared) (old : Opened) (r : Result Answer E) (after : SessionState) → old ≡ begun p.model
    → IfOk r (λ a. (q : Prepared) → q.statement ≡ p.statement → q.model ≡ old.model → Sliced (task_from rule old units before.budget) before sheet q a after)
    → IfOk r (λ a. Sliced (task_from rule (begun p.model) units before.budget) before sheet p a after)
all_begun rule before sheet units p old r after is h =
    if_ok_map r (λ (a : Answer). (q : Prepared) → q.statement ≡ p.statement → q.model ≡ old.model → Sliced (task_from rule old units before.budget) before sheet q a after)
    (λ (a : Answer). Sliced (task_from rule (begun p.model) units before.budget) before sheet p a after)
    (λ a h. subst (λ (o : Opened). Sliced (task_from rule o units before.budget) before sheet p a after) is (h p refl (sym (ap (λ (o : Opened). o.model) is)))) h

-- the same of the search that was open, whichever it is
pub all_gone_on : (rule : Rule) (before : SessionState) (sheet units : ℕ) (p : Prepared) (a : Answer) (old new : Opened) (apart middle after : SessionState) → open_search before sheet ≡ Some old
    → old.model ≡ p.model → apart ≡ without_search before sheet → Spends (task_from rule old units apart.budget) apart p.statement old.model a new middle
    → after ≡ with_left middle sheet (search_after a new) → (search : Opened) → open_search before sheet ≡ Some search
    → Sliced (task_from rule search units before.budget) before sheet p a after
all_gone_on rule before sheet units p a old new apart middle after taken same here h e search is =
    let spends : Spends (task_from rule old units before.budget) (without_search before sheet) p.statement p.model a new middle =
    subst (λ (m : Model). Spends (task_from rule old units before.budget) (without_search before sheet) p.statement m a new middle) same
    (subst (λ (s : SessionState). Spends (task_from rule old units s.budget) s p.statement old.model a new middle) here h) in
    subst (λ (s : Opened). Sliced (task_from rule s units before.budget) before sheet p a after) (same_search (open_search before sheet) old search taken is)
    (gone_on (task_from rule old units before.budget) before sheet p a new middle after spends e)

-- some units by a budget that is the same
pub further_by : (rule : Rule) (units budget now : ℕ) (old new : Opened) → budget ≡ now → GoesFurther (task_from rule old units budget) old.model new → GoesFurther (task_from rule old units now) old.model new
further_by rule units budget now old new e h = subst (λ (b : ℕ). GoesFurther (task_from rule old units b) old.model new) e h

-- ---- slices
pub slices_on : (rule : Rule) (before : SessionState) (sheet units : ℕ) (p : Prepared) (a : Answer) (after : SessionState) → ((search : Opened) → open_search before sheet ≡ Some search → search.model ≡ p.model)
    → ((search : Opened) → open_search before sheet ≡ Some search → Sliced (task_from rule search units before.budget) before sheet p a after) → (search : Opened) → open_search before sheet ≡ Some search
    → Slices rule before (cut sheet units search) p a after
slices_on rule before sheet units p a after same h search is = (task_from rule search units before.budget, inl (same search is, refl), h search is)

pub slices_anew : (rule : Rule) (before : SessionState) (sheet units : ℕ) (p : Prepared) (a : Answer) (after : SessionState) → ((search : Opened) → open_search before sheet ≡ Some search → search.model ≢ p.model)
    → Sliced (task_from rule (begun p.model) units before.budget) before sheet p a after → (search : Opened) → open_search before sheet ≡ Some search → Slices rule before (cut sheet units search) p a after
slices_anew rule before sheet units p a after other h search is = (task_from rule (begun p.model) units before.budget, inr (other search is, refl), h)

-- a slice that is cut off by want of memory
pub interrupted : (rule : Rule) (before : SessionState) (name text : List ℕ) (sheet units : ℕ) (search : Opened) (after : SessionState) → cut_of before name text ≡ Ok (cut sheet units search)
    → IsUnderWay rule before (cut sheet units search) after → IsInterrupted rule before (Slice name text) after
interrupted rule before name text sheet units search after e way = inr (cut sheet units search, e, way)

-- the same of the command that says so
pub slice_interrupted : {E : Type 0} (rule : Rule) (before after : SessionState) (command : Spoken) (name text sheet units : List ℕ) (r : Result Answer E) → command ≡ Slice name text → sheet ≡ name → units ≡ text
    → OnErr r (IsInterrupted rule before (Slice sheet units) after) → OnErr r (IsInterrupted rule before command after)
slice_interrupted rule before after command name text sheet units r is e f h =
    subst (λ (command : Spoken). OnErr r (IsInterrupted rule before command after)) (ap (λ (n : List ℕ). Slice n units) e ∙ (ap (λ (t : List ℕ). Slice name t) f ∙ sym is)) h

-- ---- where a sheet is
pub placed_none : (o : Option SheetId) (found here : List (List ℕ)) (name : List ℕ) → option_map (λ (id : SheetId). id.0) o ≡ place_in found name → found ≡ here → o ≡ None → place_in here name ≡ None
placed_none o found here name e f g = sym (ap (λ (s : List (List ℕ)). place_in s name) f) ∙ (sym e ∙ ap (λ (o : Option SheetId). option_map (λ (id : SheetId). id.0) o) g)

pub placed_some : (o : Option SheetId) (found here : List (List ℕ)) (name : List ℕ) (sheet : SheetId) → option_map (λ (id : SheetId). id.0) o ≡ place_in found name → found ≡ here → o ≡ Some sheet
    → place_in here name ≡ Some sheet.0
placed_some o found here name sheet e f g = sym (ap (λ (s : List (List ℕ)). place_in s name) f) ∙ (sym e ∙ ap (λ (o : Option SheetId). option_map (λ (id : SheetId). id.0) o) g)

-- ---- models
pub begins_sheet : (before : SessionState) (sheet : ℕ) (p : Prepared) (a : Answer) (after : SessionState) → IsPrepared before.book sheet p → Begins before sheet p a after → WithModel (Begins before sheet) before sheet a after
begins_sheet before sheet p a after is h = subst (λ (a : Answer). WithModel (Begins before sheet) before sheet a after) (sym h.0) (p, is, (refl, h.1))

pub slices_sheet : (rule : Rule) (before : SessionState) (c : Cut) (p : Prepared) (a : Answer) (after : SessionState) → IsPrepared before.book c.sheet p → Slices rule before c p a after
    → WithModel (Slices rule before c) before c.sheet a after
slices_sheet rule before c p (answer.Names fault) after is h = absurd h.2.1.1
slices_sheet rule before c p (answer.Form refusal) after is h = absurd h.2.1.1
slices_sheet rule before c p (answer.WideRow row) after is h = absurd h.2.1.1
slices_sheet rule before c p a after is h = (p, is, h)
