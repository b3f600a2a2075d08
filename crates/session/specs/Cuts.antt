-- Searches that are opened, gone on with in slices, and closed.
use Rattle.std.specs.Prelude.{◌≡◌, ◌≢◌, ◌<◌, ◌⊎◌, ℕ, nat_le, if◌then◌else◌, List, length, Option, Some, None, Result, Ok, Err}
use Rattle.node_pick.specs.Rules.{Rule}
use Rattle.sheet_linear_model.specs.Prepared.{IsPrepared, Prepared}
use Rattle.kept_book.specs.FromSheetSolving.{GoesFurther, HasOpenLeaf, Opened, Searched, Task, begun, led_to, task_from, total}
use Rattle.commands.specs.declared.answer.Answer.{Answer}
use Rattle.commands.specs.declared.answer.Answer.TheVariants as answer
use Rattle.commands.specs.Locating.{sheet_named, units_named}
use Rattle.session.specs.Edits.{and_then}
use Rattle.session.specs.Solves.{SearchEnds, WithModel}
use Rattle.session.specs.States.{SessionState, open_search, other_searches, with_contents, with_search, without_search}
use Rattle.session.specs.declared.open_searches.TheConstants.{MOST_SEARCHES}

-- ---- what the records name
-- the sheet of which a search is opened, unless as many others have one as may be
abbrev pub sheet_to_begin : SessionState → List ℕ → Result ℕ Answer
sheet_to_begin s name =
    and_then (sheet_named s.book.sheets name) (λ sheet. if nat_le MOST_SEARCHES (other_searches s sheet) then Err answer.TooManySearches else Ok sheet)

abbrev pub search_or : Option Opened → Result Opened Answer
search_or (Some search) = Ok search
search_or None = Err answer.NoSearch

-- the open search of a sheet
abbrev pub search_of : SessionState → ℕ → Result Opened Answer
search_of s sheet = search_or (open_search s sheet)

-- a sheet, its open search, and how many units of it are asked for
pub record Cut : Type 0 where
  pub sheet : ℕ
  pub units : ℕ
  pub search : Opened

abbrev pub cut : ℕ → ℕ → Opened → Cut
cut sheet units search = record { sheet = sheet; units = units; search = search }

abbrev pub cut_of : SessionState → List ℕ → List ℕ → Result Cut Answer
cut_of s name text =
    and_then (sheet_named s.book.sheets name) (λ sheet.
    and_then (units_named text) (λ units.
    and_then (search_of s sheet) (λ search. Ok (cut sheet units search))))

-- the sheet whose search is closed
abbrev pub sheet_to_stop : SessionState → List ℕ → Result ℕ Answer
sheet_to_stop s name = and_then (sheet_named s.book.sheets name) (λ sheet. and_then (search_of s sheet) (λ search. Ok sheet))

-- ---- what is done with them
-- a search of the sheet's model is open that has spent no unit, in the place of one that was
abbrev pub Begins : SessionState → ℕ → Prepared → Answer → SessionState → Type 0
Begins before sheet p a after = (a ≡ answer.Begun) × (after ≡ with_search before sheet (begun p.model))

-- the search is closed
abbrev pub Stops : SessionState → ℕ → Answer → SessionState → Type 0
Stops before sheet a after = (a ≡ answer.Stopped) × (after ≡ without_search before sheet)

-- where the model of the search is still that of the sheet, the slice goes on with it; where it isn't, a search begins anew. The budget is
-- that of the session now
abbrev pub Resumes : Rule → SessionState → Cut → Prepared → Task → Type 0
Resumes rule before c p task =
    ((c.search.model ≡ p.model) × (task ≡ task_from rule c.search c.units before.budget))
    ⊎ ((c.search.model ≢ p.model) × (task ≡ task_from rule (begun p.model) c.units before.budget))

-- all units that are asked for are spent, the budget isn't, a leaf is open, and the search stays open where they have led; or the search
-- is at an end, and closed
abbrev pub Sliced : Task → SessionState → ℕ → Prepared → Answer → SessionState → Type 0
Sliced task before sheet p (answer.More n) after =
    (t : Searched task p.model) × (n ≡ total t) × (length t.units ≡ task.units) × (total t < task.budget) × HasOpenLeaf p.model t.state
    × (after ≡ with_search before sheet (led_to t))
Sliced task before sheet p a after = (ended : SessionState) × SearchEnds task before p.statement p.model a ended × (after ≡ without_search ended sheet)

abbrev pub Slices : Rule → SessionState → Cut → Prepared → Answer → SessionState → Type 0
Slices rule before c p a after = (task : Task) × Resumes rule before c p task × Sliced task before c.sheet p a after

-- ---- want of memory
-- the contents and the files that count as changed are as before, or as once the slice is answered; all else is as before
abbrev pub HasWritten : Rule → SessionState → Cut → SessionState → Type 0
HasWritten rule before c after =
    (after ≡ before) ⊎ ((a : Answer) × (answered : SessionState) × WithModel (Slices rule before c) before c.sheet a answered × (after ≡ with_contents before answered))

-- the model of the search is still that of the sheet, some of the units that are asked for are spent, or none, and none is lost
pub record HasGoneOn (rule : Rule) (before : SessionState) (c : Cut) (written after : SessionState) : Type 0 where
  pub prepared : Prepared
  pub is_prepared : IsPrepared before.book c.sheet prepared
  pub same : c.search.model ≡ prepared.model
  pub search : Opened
  pub further : GoesFurther (task_from rule c.search c.units before.budget) prepared.model search
  pub after_is : after ≡ with_search written c.sheet search

-- the search is as before, or so
abbrev pub IsUnderWay : Rule → SessionState → Cut → SessionState → Type 0
IsUnderWay rule before c after = (written : SessionState) × HasWritten rule before c written × ((after ≡ written) ⊎ HasGoneOn rule before c written after)
