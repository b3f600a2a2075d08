-- What a command does to a session, and what it answers. Each part of the session that a case doesn't name stays as it was.
use Rattle.std.specs.Prelude.{◌≡◌, ℕ, List, [], ◌∷◌, Option, Result, Ok, Err}
use Rattle.cell_refs.specs.declared.cell.Cell.{Cell}
use Rattle.node_pick.specs.Rules.{Rule}
use Rattle.recalc.specs.declared.shown.Shown.TheVariants as shown
use Rattle.recalc.specs.Showing.{IsShown}
use Rattle.workbook.specs.Edits.{after_set}
use Rattle.workbook.specs.Kinds.{book_of}
use Rattle.workbook.specs.Naming.{after_name, after_unname}
use Rattle.commands.specs.declared.answer.Answer.{Answer}
use Rattle.commands.specs.declared.answer.Answer.TheVariants as answer
use Rattle.commands.specs.Commands.{Spoken, Set, Clear, Name, Unname, Show, Model, Solve, Prices, Begin, Slice, Stop, Budget, Cert, Save, Unknown}
use Rattle.commands.specs.Locating.{cell_named, sheet_named, units_named}
use Rattle.session.specs.Edits.{cell_to_set, home_to_name, home_to_unname}
use Rattle.session.specs.Certificates.{CertifiesSheet}
use Rattle.session.specs.Models.{Models}
use Rattle.session.specs.Prices.{PricesSheet}
use Rattle.session.specs.Saves.{Saves}
use Rattle.session.specs.Cuts.{Begins, Cut, Slices, Stops, cut_of, sheet_to_begin, sheet_to_stop}
use Rattle.session.specs.Solves.{SolvesSheet, WithModel}
use Rattle.session.specs.States.{SessionState, with_book, with_budget, with_changed, with_names_changed, with_none_changed}

-- what is done with what a record names; where it is refused, that is answered and nothing has changed
abbrev pub Does : {A : Type 0} → (A → Answer → SessionState → Type 0) → SessionState → Result A Answer → Answer → SessionState → Type 0
Does Act before (Ok x) a after = Act x a after
Does Act before (Err r) a after = (a ≡ r) × (after ≡ before)

-- it is done, and the session is this one
abbrev pub IsDone : SessionState → Answer → SessionState → Type 0
IsDone next a after = (a ≡ answer.Done) × (after ≡ next)

-- ---- edits
-- the session with a text in a cell; an empty text takes away what the cell had
abbrev pub with_text : SessionState → Cell → List ℕ → SessionState
with_text s cell text = with_changed (with_book s (after_set s.book cell text)) (cell ∷ [])

-- the session with a text for a name, and without a name
abbrev pub with_name : SessionState → Option ℕ → List ℕ → List ℕ → SessionState
with_name s home name text = with_names_changed (with_book s (after_name s.book home name text))

abbrev pub without_name : SessionState → Option ℕ → List ℕ → SessionState
without_name s home name = with_names_changed (with_book s (after_unname s.book home name))

-- ---- showing
-- the value of a cell, or the least wide cell at which it looks
abbrev pub Shows : SessionState → Cell → Answer → SessionState → Type 0
Shows before cell (answer.Shown v) after = IsShown (book_of before.book) cell (shown.Is v) × (after ≡ before)
Shows before cell (answer.WideCell c) after = IsShown (book_of before.book) cell (shown.Wide c) × (after ≡ before)
Shows before cell _ after = ⊥

-- ---- models
abbrev pub ModelsSheet : SessionState → ℕ → Answer → SessionState → Type 0
ModelsSheet before sheet a after = Models before.book sheet a × (after ≡ before)

-- ---- all commands
-- a solve, a slice and a certificate open the nodes of their searches by the rule of the picker that they are lent
abbrev pub Applies : Rule → SessionState → Spoken → Answer → SessionState → Type 0
Applies rule before (Set address text) a after = Does (λ cell. IsDone (with_text before cell text)) before (cell_to_set before.book address text) a after
Applies rule before (Clear address) a after = Does (λ cell. IsDone (with_text before cell [])) before (cell_named before.book.sheets address) a after
Applies rule before (Name sheet name text) a after = Does (λ home. IsDone (with_name before home name text)) before (home_to_name before.book sheet name text) a after
Applies rule before (Unname sheet name) a after = Does (λ home. IsDone (without_name before home name)) before (home_to_unname before.book sheet name) a after
Applies rule before (Show address) a after = Does (Shows before) before (cell_named before.book.sheets address) a after
Applies rule before (Model sheet) a after = Does (ModelsSheet before) before (sheet_named before.book.sheets sheet) a after
Applies rule before (Solve sheet) a after = Does (SolvesSheet rule before) before (sheet_named before.book.sheets sheet) a after
Applies rule before (Prices sheet) a after = Does (PricesSheet before) before (sheet_named before.book.sheets sheet) a after
Applies rule before (Begin sheet) a after = Does (λ i. WithModel (Begins before i) before i) before (sheet_to_begin before sheet) a after
Applies rule before (Slice sheet units) a after = Does (λ (c : Cut). WithModel (Slices rule before c) before c.sheet) before (cut_of before sheet units) a after
Applies rule before (Stop sheet) a after = Does (Stops before) before (sheet_to_stop before sheet) a after
Applies rule before (Budget units) a after = Does (λ n. IsDone (with_budget before n)) before (units_named units) a after
Applies rule before (Cert sheet) a after = Does (CertifiesSheet rule before) before (sheet_named before.book.sheets sheet) a after
Applies rule before Save a after = Saves before a after
Applies rule before Unknown a after = (a ≡ answer.UnknownCommand) × (after ≡ before)

-- once the files are written that an answer names, none counts as changed
abbrev pub once_written : Answer → SessionState → SessionState
once_written (answer.ToSave files) s = with_none_changed s
once_written a s = s

-- a step of the session: what a command does, the writing of files included
abbrev pub Step : Rule → SessionState → Spoken → Answer → SessionState → Type 0
Step rule before command a after = (applied : SessionState) × Applies rule before command a applied × (after ≡ once_written a applied)
