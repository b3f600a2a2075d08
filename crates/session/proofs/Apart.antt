-- A command leaves the searches of all sheets but its own as they were, and which sheets there are.
use Rattle.std.proofs.Common.{◌≡◌, ◌≢◌, ◌∙◌, ℕ, suc, Bool, true, false, List, [], ◌∷◌, Option, Some, None, Result, Ok, Err, ap, refl, subst, sym, arith, set}
use Rattle.std.specs.Prelude.{All, IfOk, if◌then◌else◌, nat_le, unwrap_or}
use Rattle.std.proofs.lemmas.List.{get_or-set_other}
use Rattle.std.proofs.lemmas.List.Elements.{All-head, All-tail}
use Rattle.cell_refs.specs.declared.cell.Cell.{Cell}
use Rattle.cell_refs.specs.Names.{place_in}
use Rattle.linear_models.specs.Model.{Model}
use Rattle.node_pick.specs.Rules.{Rule}
use Rattle.workbook.specs.State.{State}
use Rattle.solver_names.specs.Statement.{Statement}
use Rattle.sheet_linear_model.specs.Prepared.{Prepared}
use Rattle.kept_book.specs.FromSheetSolving.{Opened, Task, whole_task}
use Rattle.commands.specs.declared.answer.Answer.{Answer}
use Rattle.commands.specs.declared.answer.Answer.TheVariants as answer
use Rattle.commands.specs.Commands.{Spoken, Set, Clear, Name, Unname, Show, Model as ToModel, Solve, Prices, Begin, Slice, Stop, Budget, Cert, Save, Unknown}
use Rattle.commands.specs.Locating.{cell_named, or_unknown, sheet_named, units_named}
use Rattle.session.specs.Cuts.{Begins, Cut, Sliced, Slices, cut, cut_of, search_or, sheet_to_begin, sheet_to_stop}
use Rattle.session.specs.Edits.{and_then, cell_to_set, home_to_name, home_to_unname}
use Rattle.session.specs.Laws.{OtherSearchesStay, OthersStay, SearchesAreApart, SheetsStay, searched, none, more}
use Rattle.session.specs.Certificates.{TellsCertificate}
use Rattle.session.specs.Prices.{TellsPrices}
use Rattle.session.specs.Saves.{Saves}
use Rattle.session.specs.Solves.{SearchEnds, WithModel}
use Rattle.session.specs.States.{SessionState, open_search, other_searches, with_book}
use Rattle.session.specs.Steps.{Applies, Does, Shows, Step, once_written}
use Rattle.session.specs.declared.open_searches.TheConstants.{MOST_SEARCHES}
use Rattle.session.proofs.Said.{if_ok_map}

-- the search of one sheet is as it was, and so are the sheets
record StaysAt (sheet : ℕ) (before after : SessionState) : Type 0 where
  search : open_search after sheet ≡ open_search before sheet
  sheets : after.book.sheets ≡ before.book.sheets

-- all searches are
record StayAll (before after : SessionState) : Type 0 where
  searches : after.searches ≡ before.searches
  sheets : after.book.sheets ≡ before.book.sheets

at_each : (sheet : ℕ) (before after : SessionState) → StayAll before after → StaysAt sheet before after
at_each sheet before after h = record { search = ap (λ (l : List (Option Opened)). open_search (record before { searches = l }) sheet) h.searches; sheets = h.sheets }

unchanged : (before after : SessionState) → after ≡ before → StayAll before after
unchanged before after e = subst (λ (s : SessionState). StayAll before s) (sym e) (record { searches = refl; sheets = refl })

nothing_written : (before after : SessionState) (book : State) → after ≡ with_book before book → book ≡ before.book → StayAll before after
nothing_written before after book e same = unchanged before after (e ∙ ap (λ (b : State). with_book before b) same)

-- ---- another sheet's search is put in or taken out
put_elsewhere : (s : SessionState) (i sheet : ℕ) (x : Option Opened) → Some i ≢ Some sheet → open_search (record s { searches = set s.searches i x }) sheet ≡ open_search s sheet
put_elsewhere s i sheet x other = get_or-set_other s.searches i sheet x None (λ e. other (ap Some (sym e)))

elsewhere : (before middle after : SessionState) (i sheet : ℕ) (x : Option Opened) → Some i ≢ Some sheet → StayAll before middle → after ≡ record middle { searches = set middle.searches i x }
    → StaysAt sheet before after
elsewhere before middle after i sheet x other h e =
    let m = at_each sheet before middle h in
    record {
      search = ap (λ (s : SessionState). open_search s sheet) e ∙ (put_elsewhere middle i sheet x other ∙ m.search);
      sheets = ap (λ (s : SessionState). s.book.sheets) e ∙ m.sheets;
    }

-- ---- what the records name
kept_if : (b : Bool) (r : Answer) (j i : ℕ) → (if b then Err r else Ok j) ≡ Ok i → j ≡ i
kept_if true r j i e = absurd cc
kept_if false r j i e = cc

begins : (f : ℕ → Bool) (r : Answer) (o : Option ℕ) (i : ℕ) → and_then (or_unknown o) (λ j. if f j then Err r else Ok j) ≡ Ok i → o ≡ Some i
begins f r None i e = absurd cc
begins f r (Some j) i e = ap Some (kept_if (f j) r j i e)

stopped : (o : Option Opened) (j i : ℕ) → and_then (search_or o) (λ search. Ok j) ≡ Ok i → j ≡ i
stopped None j i e = absurd cc
stopped (Some v) j i e = cc

stops : (f : ℕ → Option Opened) (o : Option ℕ) (i : ℕ) → and_then (or_unknown o) (λ j. and_then (search_or (f j)) (λ search. Ok j)) ≡ Ok i → o ≡ Some i
stops f None i e = absurd cc
stops f (Some j) i e = ap Some (stopped (f j) j i e)

abbrev sheet_or : ℕ → Result Cut Answer → ℕ
sheet_or k (Ok c) = c.sheet
sheet_or k (Err r) = k

cut_with : (j n : ℕ) (o : Option Opened) (c : Cut) → and_then (search_or o) (λ search. Ok (cut j n search)) ≡ Ok c → j ≡ c.sheet
cut_with j n None c e = absurd cc
cut_with j n (Some v) c e = ap (sheet_or j) e

cut_after : (j : ℕ) (u : Result ℕ Answer) (o : Option Opened) (c : Cut) → and_then u (λ n. and_then (search_or o) (λ search. Ok (cut j n search))) ≡ Ok c → j ≡ c.sheet
cut_after j (Ok n) o c e = cut_with j n o c e
cut_after j (Err r) o c e = absurd cc

cuts : (u : Result ℕ Answer) (f : ℕ → Option Opened) (o : Option ℕ) (c : Cut) → and_then (or_unknown o) (λ j. and_then u (λ n. and_then (search_or (f j)) (λ search. Ok (cut j n search)))) ≡ Ok c
    → o ≡ Some c.sheet
cuts u f None c e = absurd cc
cuts u f (Some j) c e = ap Some (cut_after j u (f j) c e)

-- ---- commands
does : {A : Type 0} (P : Type 0) (Act : A → Answer → SessionState → Type 0) (before : SessionState) (x : Result A Answer) (a : Answer) (after : SessionState)
    → ((y : A) → x ≡ Ok y → Act y a after → P) → (after ≡ before → P) → Does Act before x a after → P
does P Act before (Ok x) a after h g d = h x refl d
does P Act before (Err r) a after h g d = g d.1

search_ends : (task : Task) (before : SessionState) (s : Statement) (m : Model) (a : Answer) (after : SessionState) → SearchEnds task before s m a after → StayAll before after
search_ends task before s m (answer.Optimal v) after h = record {
  searches = ap (λ (s : SessionState). s.searches) h.2;
  sheets = ap (λ (s : SessionState). s.book.sheets) h.2 ∙ ap (λ (b : State). b.sheets) h.1.4.written;
}
search_ends task before s m answer.Infeasible after h = nothing_written before after h.0 h.2 h.1.3
search_ends task before s m answer.Unbounded after h = nothing_written before after h.0 h.2 h.1.5
search_ends task before s m (answer.WidePivot path basis leaves enters) after h = nothing_written before after h.0 h.2 h.1.2
search_ends task before s m (answer.Budget n) after h = nothing_written before after h.0 h.2 h.1.4
search_ends task before s m (answer.NoRoom c) after h = nothing_written before after h.0 h.2 h.1.5
search_ends task before s m _ after h = absurd h.1

sliced : (sheet : ℕ) (task : Task) (before : SessionState) (i : ℕ) (p : Prepared) (a : Answer) (after : SessionState) → Some i ≢ Some sheet → Sliced task before i p a after → StaysAt sheet before after
sliced sheet task before i p (answer.More n) after other h = elsewhere before before after i sheet _ other (unchanged before before refl) h.5
sliced sheet task before i p a after other h = elsewhere before h.0 after i sheet _ other (search_ends task before p.statement p.model a h.0 h.1) h.2

shows : (before : SessionState) (c : Cell) (a : Answer) (after : SessionState) → Shows before c a after → after ≡ before
shows before c (answer.Shown v) after h = h.1
shows before c (answer.WideCell w) after h = h.1
shows before c _ after h = absurd h

with_model : (P : Type 0) (Act : Prepared → Answer → SessionState → Type 0) (before : SessionState) (i : ℕ) (a : Answer) (after : SessionState) → ((p : Prepared) → Act p a after → P) → (after ≡ before → P)
    → WithModel Act before i a after → P
with_model P Act before i (answer.Names fault) after h g w = g w.1
with_model P Act before i (answer.Form refusal) after h g w = g w.1
with_model P Act before i (answer.WideRow row) after h g w = g w.1
with_model P Act before i a after h g w = h w.0 w.2

saves : (before : SessionState) (a : Answer) (after : SessionState) → Saves before a after → after ≡ before
saves before (answer.ToSave files) after h = h.1
saves before _ after h = absurd h

module _ (sheet : ℕ) (before : SessionState) (after : SessionState) where
  stays : after ≡ before → StaysAt sheet before after
  stays e = at_each sheet before after (unchanged before after e)

  becomes : (next : SessionState) → StayAll before next → after ≡ next → StaysAt sheet before after
  becomes next h e = subst (λ (s : SessionState). StaysAt sheet before s) (sym e) (at_each sheet before next h)

  applies : (rule : Rule) (command : Spoken) (a : Answer) → Applies rule before command a after → searched before.book.sheets command ≢ Some sheet → StaysAt sheet before after
  applies rule (Set address text) a h other =
      does _ _ before (cell_to_set before.book address text) a after (λ c e d. becomes _ (record { searches = refl; sheets = refl }) d.1) stays h
  applies rule (Clear address) a h other = does _ _ before (cell_named before.book.sheets address) a after (λ c e d. becomes _ (record { searches = refl; sheets = refl }) d.1) stays h
  applies rule (Name home name text) a h other =
      does _ _ before (home_to_name before.book home name text) a after (λ c e d. becomes _ (record { searches = refl; sheets = refl }) d.1) stays h
  applies rule (Unname home name) a h other =
      does _ _ before (home_to_unname before.book home name) a after (λ c e d. becomes _ (record { searches = refl; sheets = refl }) d.1) stays h
  applies rule (Show address) a h other = does _ _ before (cell_named before.book.sheets address) a after (λ c e d. stays (shows before c a after d)) stays h
  applies rule (ToModel name) a h other = does _ _ before (sheet_named before.book.sheets name) a after (λ c e d. stays d.1) stays h
  applies rule (Solve name) a h other =
      does _ _ before (sheet_named before.book.sheets name) a after
      (λ i e w. with_model (StaysAt sheet before after) (λ (p : Prepared). SearchEnds (whole_task rule before.budget) before p.statement p.model) before i a after (λ p d. at_each sheet before after (search_ends _ before p.statement p.model a after d)) stays w) stays h
  applies rule (Prices name) a h other =
      does _ _ before (sheet_named before.book.sheets name) a after
      (λ i e w. with_model (StaysAt sheet before after) (TellsPrices before) before i a after (λ p d. stays d.2) stays w) stays h
  applies rule (Cert name) a h other =
      does _ _ before (sheet_named before.book.sheets name) a after
      (λ i e w. with_model (StaysAt sheet before after) (TellsCertificate rule before) before i a after (λ p d. stays d.1) stays w) stays h
  applies rule (Begin name) a h other =
      does _ _ before (sheet_to_begin before name) a after
      (λ i e w. with_model (StaysAt sheet before after) (Begins before i) before i a after
      (λ p d. elsewhere before before after i sheet _ (λ same. other (begins (λ j. nat_le MOST_SEARCHES (other_searches before j)) answer.TooManySearches (place_in before.book.sheets name) i e ∙ same))
      (unchanged before before refl) d.1)
      stays w)
      stays h
  applies rule (Slice name units) a h other =
      does _ _ before (cut_of before name units) a after
      (λ (c : Cut) e w. with_model (StaysAt sheet before after) (Slices rule before c) before c.sheet a after
      (λ p d. sliced sheet d.0 before c.sheet p a after (λ same. other (cuts (units_named units) (open_search before) (place_in before.book.sheets name) c e ∙ same)) d.2)
      stays w)
      stays h
  applies rule (Stop name) a h other =
      does _ _ before (sheet_to_stop before name) a after
      (λ i e d. elsewhere before before after i sheet _ (λ same. other (stops (open_search before) (place_in before.book.sheets name) i e ∙ same)) (unchanged before before refl) d.1)
      stays h
  applies rule (Budget units) a h other = does _ _ before (units_named units) a after (λ c e d. becomes _ (record { searches = refl; sheets = refl }) d.1) stays h
  applies rule Save a h other = stays (saves before a after h)
  applies rule Unknown a h other = stays h.1

written : (a : Answer) (s : SessionState) → StayAll s (once_written a s)
written (answer.ToSave files) s = record { searches = refl; sheets = refl }
written _ s = record { searches = refl; sheets = refl }

steps_at : (sheet : ℕ) (rule : Rule) (before after : SessionState) (command : Spoken) (a : Answer) → Step rule before command a after → searched before.book.sheets command ≢ Some sheet → StaysAt sheet before after
steps_at sheet rule before after command a step other =
    let first = applies sheet before step.0 rule command a step.1 other in
    let wrote = at_each sheet step.0 (once_written a step.0) (written a step.0) in
    record {
      search = ap (λ (s : SessionState). open_search s sheet) step.2 ∙ (wrote.search ∙ first.search);
      sheets = ap (λ (s : SessionState). s.book.sheets) step.2 ∙ (wrote.sheets ∙ first.sheets);
    }

pub other_searches_stay : OtherSearchesStay
other_searches_stay rule before after command a step = λ sheet other. (steps_at sheet rule before after command a step other).search

-- after one command without files to be written
others_stay : (rule : Rule) (before after : SessionState) (command : Spoken) (a : Answer) → Applies rule before command a after → OthersStay before command after
others_stay rule before after command a h = λ sheet other. (applies sheet before after rule command a h other).search

pub all_stay : {E : Type 0} (rule : Rule) (before after : SessionState) (command : Spoken) (r : Result Answer E) → IfOk r (λ a. Applies rule before command a after) → IfOk r (λ _. OthersStay before command after)
all_stay rule before after command r h = if_ok_map r (λ (a : Answer). Applies rule before command a after) (λ (_ : Answer). OthersStay before command after) (λ a w. others_stay rule before after command a w) h

-- ---- which sheets there are
another : (o : Option ℕ) → (sheet : ℕ) × (o ≢ Some sheet)
another None = (0, λ e. absurd cc)
another (Some k) = (suc k, λ e. absurd (never k (ap (λ (o : Option ℕ). unwrap_or o 0) e)))
  where
    never : (k : ℕ) → k ≡ suc k → ⊥
    never k e = omega (arith, e)

pub sheets_stay : SheetsStay
sheets_stay rule before after command a step =
    let sheet = another (searched before.book.sheets command) in
    (steps_at sheet.0 rule before after command a step sheet.1).sheets

-- ---- lists of commands
pub searches_are_apart : SearchesAreApart
searches_are_apart before after [] [] sheet none all = refl
searches_are_apart before after [] (a ∷ rest) sheet steps all = elim steps [ ]
searches_are_apart before after (command ∷ commands) [] sheet steps all = elim steps [ ]
searches_are_apart before after (command ∷ commands) (a ∷ rest) sheet (more rule {m = m} step later) all =
    let leaves : List (List ℕ) → Spoken → Type 0 = λ sheets command. searched sheets command ≢ Some sheet in
    let one = steps_at sheet rule before m command a step (All-head (leaves before.book.sheets) command commands all) in
    searches_are_apart m after commands rest sheet later
    (subst (λ (sheets : List (List ℕ)). All (leaves sheets) commands) (sym one.sheets) (All-tail (leaves before.book.sheets) command commands all))
    ∙ one.search
