-- What is kept behind each command, and how few forms it makes.
use Rattle.std.specs.Prelude.{◌-◌, Err, IfOk, Ok, Result, option_map}
use Rattle.std.specs.Option.{option_and_then}
use Rattle.std.proofs.Common.{◌≡◌, ◌∙◌, ℕ, List, [], Option, Some, None, ap, arith, refl, subst, sym}
use Rattle.cell_refs.specs.Names.{place_in}
use Rattle.cell_refs.specs.declared.cell.Cell.{Cell}
use Rattle.workbook.specs.Kinds.{book_of}
use Rattle.kept_tables.specs.Commands as kept
use Rattle.kept_tables.specs.Settled.{Parts}
use Rattle.kept_tables.specs.Steps.{MakesFew}
use Rattle.sheet_linear_model.specs.FromKeptForms.{all_forms}
use Rattle.commands.specs.Commands.{Begin, Budget, Cert, Model as ToModel, Prices, Save, Show, Slice, Solve, Spoken, Stop, Unknown}
use Rattle.commands.specs.Locating.{or_unknown, sheet_named}
use Rattle.commands.specs.declared.answer.Answer.{Answer}
use Rattle.commands.specs.declared.answer.Answer.TheVariants as answer
use Rattle.sheet_linear_model.specs.Answers.{CountsFew as FewSteps, parts_in}
use Rattle.kept_book.specs.FromSheetSolving.{Opened}
use Rattle.session.specs.Cuts.{Cut, cut, cut_of, sheet_to_begin}
use Rattle.session.specs.Edits.{and_then}
use Rattle.session.specs.Inner.{AreWritten, FewOfSheet, Follows, FollowsCommand, FollowsModel, FollowsSheet, HasFollowed}
use Rattle.session.specs.Kept.{CountsFew, Edits, kept_of, sheet_needed, sheet_or, without_fault}
use Rattle.session.specs.States.{Session, SessionState}
use Rattle.session.proofs.Keeping.{follows_nothing}

-- ---- commands
-- what a command needs that names a sheet
needed_by : (s : SessionState) (r : Result ℕ Answer) (sheet : ℕ) → r ≡ Ok sheet → option_and_then (without_fault s.book) (sheet_or r) ≡ without_fault s.book sheet
needed_by s r sheet e = ap (λ (r : Result ℕ Answer). option_and_then (without_fault s.book) (sheet_or r)) e

named_there : (o : Option ℕ) (sheet : ℕ) → o ≡ Some sheet → or_unknown o ≡ Ok sheet
named_there o sheet e = ap or_unknown e

-- what a slice and a search that is opened need
pub cut_needs : (s : SessionState) (name units : List ℕ) (n : ℕ) (search : Opened) (sheet : ℕ) → cut_of s name units ≡ Ok (cut sheet n search) → sheet_needed s (Slice name units) ≡ without_fault s.book sheet
cut_needs s name units n search sheet e = ap (λ (r : Result Cut Answer). option_and_then (without_fault s.book) (sheet_or (and_then r (λ (c : Cut). Ok c.sheet)))) e

pub begin_needs : (s : SessionState) (name : List ℕ) (sheet : ℕ) → sheet_to_begin s name ≡ Ok sheet → sheet_needed s (Begin name) ≡ without_fault s.book sheet
begin_needs s name sheet e = needed_by s (sheet_to_begin s name) sheet e

pub solve_needs : (s : SessionState) (name : List ℕ) (sheet : ℕ) → place_in s.book.sheets name ≡ Some sheet → sheet_needed s (Solve name) ≡ without_fault s.book sheet
solve_needs s name sheet e = needed_by s (sheet_named s.book.sheets name) sheet (named_there (place_in s.book.sheets name) sheet e)

-- by what it asks for
pub modelled_as : (before after : Session) (command : Spoken) (a : Answer) (sheet : ℕ) → sheet_needed before.state command ≡ without_fault before.state.book sheet
    → Edits before.state command a after.state [] → FollowsModel before sheet after → FollowsCommand before command a after
modelled_as before after command a sheet e none h = ([], none, subst (λ (n : Option ℕ). Follows n [] before after) (sym e) h)

module _ (before after : Session) (name : List ℕ) (sheet : ℕ) (place : place_in before.state.book.sheets name ≡ Some sheet) where
  named : sheet_named before.state.book.sheets name ≡ Ok sheet
  named = named_there (place_in before.state.book.sheets name) sheet place

  pub model_follows : (a : Answer) → FollowsModel before sheet after → FollowsCommand before (ToModel name) a after
  model_follows a h = modelled_as before after (ToModel name) a sheet (needed_by before.state (sheet_named before.state.book.sheets name) sheet named) refl h

  pub prices_follow : (a : Answer) → FollowsModel before sheet after → FollowsCommand before (Prices name) a after
  prices_follow a h = modelled_as before after (Prices name) a sheet (needed_by before.state (sheet_named before.state.book.sheets name) sheet named) refl h

  pub certificate_follows : (a : Answer) → FollowsModel before sheet after → FollowsCommand before (Cert name) a after
  certificate_follows a h = modelled_as before after (Cert name) a sheet (needed_by before.state (sheet_named before.state.book.sheets name) sheet named) refl h

  solve_edits : (a : Answer) (cells : List Cell) → AreWritten before.state sheet a cells → Edits before.state (Solve name) a after.state cells
  solve_edits (answer.Optimal value) cells h = (sheet, h.0, place, h.1, h.2)
  solve_edits _ cells h = h

  pub solve_follows : (a : Answer) → FollowsSheet before sheet a after → FollowsCommand before (Solve name) a after
  solve_follows a h = (
    h.0,
    solve_edits a h.0 h.1,
    subst (λ (n : Option ℕ). Follows n h.0 before after) (sym (needed_by before.state (sheet_named before.state.book.sheets name) sheet named)) h.2,
  )

  slice_edits : (units : List ℕ) (a : Answer) (cells : List Cell) → AreWritten before.state sheet a cells → Edits before.state (Slice name units) a after.state cells
  slice_edits units (answer.Optimal value) cells h = (sheet, h.0, place, h.1, h.2)
  slice_edits units _ cells h = h

  pub slice_follows : (units : List ℕ) (n : ℕ) (search : Opened) (a : Answer) → cut_of before.state name units ≡ Ok (cut sheet n search) → FollowsSheet before sheet a after
      → FollowsCommand before (Slice name units) a after
  slice_follows units n search a e h = (
    h.0,
    slice_edits units a h.0 h.1,
    subst (λ (n : Option ℕ). Follows n h.0 before after) (sym (cut_needs before.state name units n search sheet e)) h.2,
  )

-- where nothing is named, or it is refused, none is needed
pub named_none : (s : SessionState) (name : List ℕ) → place_in s.book.sheets name ≡ None → option_and_then (without_fault s.book) (sheet_or (sheet_named s.book.sheets name)) ≡ None
named_none s name e = ap (λ (o : Option ℕ). option_and_then (without_fault s.book) (sheet_or (or_unknown o))) e

pub begin_none : (s : SessionState) (name : List ℕ) (a : Answer) → sheet_to_begin s name ≡ Err a → sheet_needed s (Begin name) ≡ None
begin_none s name a e = ap (λ (r : Result ℕ Answer). option_and_then (without_fault s.book) (sheet_or r)) e

pub cut_none : (s : SessionState) (name units : List ℕ) (a : Answer) → cut_of s name units ≡ Err a → sheet_needed s (Slice name units) ≡ None
cut_none s name units a e = ap (λ (r : Result Cut Answer). option_and_then (without_fault s.book) (sheet_or (and_then r (λ (c : Cut). Ok c.sheet)))) e

-- ---- commands that need no forms
pub nothing_followed : (before after : Session) (command : Spoken) (a : Answer) → sheet_needed before.state command ≡ None → Edits before.state command a after.state [] → after.state.book ≡ before.state.book
    → after.tables ≡ before.tables → FollowsCommand before command a after
nothing_followed before after command a none edits book tables = ([], edits, subst (λ (n : Option ℕ). Follows n [] before after) (sym none) (follows_nothing before after book tables))

-- commands that name no sheet and edit nothing
abbrev pub IsPlain : Spoken → Type 0
IsPlain (Show address) = Unit {0}
IsPlain (Stop name) = Unit {0}
IsPlain (Budget units) = Unit {0}
IsPlain Save = Unit {0}
IsPlain Unknown = Unit {0}
IsPlain command = ⊥

pub plain_follows : (before after : Session) (command : Spoken) (a : Answer) → IsPlain command → after.state.book ≡ before.state.book → after.tables ≡ before.tables → FollowsCommand before command a after
plain_follows before after (Show address) a plain book tables = ([], refl, follows_nothing before after book tables)
plain_follows before after (Stop name) a plain book tables = ([], refl, follows_nothing before after book tables)
plain_follows before after (Budget units) a plain book tables = ([], refl, follows_nothing before after book tables)
plain_follows before after Save a plain book tables = ([], refl, follows_nothing before after book tables)
plain_follows before after Unknown a plain book tables = ([], refl, follows_nothing before after book tables)
plain_follows before after command a plain book tables = absurd plain

pub plain_answered : {E : Type 0} (before after : Session) (command : Spoken) (r : Result Answer E) → IsPlain command → after.state.book ≡ before.state.book → after.tables ≡ before.tables
    → IfOk r (λ a. FollowsCommand before command a after)
plain_answered before after command (Ok a) plain book tables = plain_follows before after command a plain book tables
plain_answered before after command (Err e) plain book tables = tt

-- ---- steps
pub no_steps : (before : Session) (command : Spoken) (steps : ℕ) → sheet_needed before.state command ≡ None → CountsFew before command (steps - steps)
no_steps before command steps none = subst (λ (n : Option ℕ). kept.CountsFew (kept_of before) n (steps - steps)) (sym none) (omega arith)

few_by : (before : Session) (sheet steps : ℕ) (parts : Option Parts) → parts_in before.state.book sheet ≡ parts → FewSteps before.state.book before.tables sheet parts steps
    → kept.CountsFew (kept_of before) (option_map (λ (p : Parts). sheet) parts) steps
few_by before sheet steps None given h = h
few_by before sheet steps (Some parts) given h = λ other e.
    let both : Some parts ≡ Some other = sym given ∙ e in
    let same : parts ≡ other = cc in
    subst (λ (x : Parts). MakesFew (book_of before.state.book) (all_forms before.tables) sheet x steps) same h

pub few_steps : (before : Session) (command : Spoken) (sheet steps : ℕ) → sheet_needed before.state command ≡ without_fault before.state.book sheet → FewOfSheet before sheet steps → CountsFew before command steps
few_steps before command sheet steps e h =
    subst (λ (n : Option ℕ). kept.CountsFew (kept_of before) n steps) (sym e) (few_by before sheet steps (parts_in before.state.book sheet) refl h)

-- ---- edits
pub edit_follows : (before after : Session) (command : Spoken) (a : Answer) (cells : List Cell) → sheet_needed before.state command ≡ None → Edits before.state command a after.state cells
    → HasFollowed cells (all_forms before.tables) before after → FollowsCommand before command a after
edit_follows before after command a cells none edits h = (cells, edits, subst (λ (n : Option ℕ). Follows n cells before after) (sym none) h)
