-- What is true of every step of a session, and of every list of commands.
use Rattle.std.specs.Prelude.{◌≡◌, ◌≢◌, ◌+◌, ℕ, true, List, [], ◌∷◌, All, Option, Some, None, ⊤}
use Rattle.cell_refs.specs.Names.{place_in}
use Rattle.node_pick.specs.Rules.{Rule}
use Rattle.kept_book.specs.FromSheetSolving.{Opened}
use Rattle.commands.specs.declared.answer.Answer.{Answer}
use Rattle.commands.specs.declared.answer.Answer.TheVariants as answer
use Rattle.commands.specs.Commands.{Spoken, Begin, Slice, Stop}
use Rattle.commands.specs.Lines.{is_refusal}
use Rattle.cell_refs.specs.Units.{units_in}
use Rattle.cell_refs.specs.declared.units.TheConstants.{MOST_UNITS}
use Rattle.session.specs.declared.open_searches.TheConstants.{MOST_SEARCHES}
use Rattle.session.specs.States.{SessionState, open_search}
use Rattle.session.specs.Steps.{Step}

-- the sheet, of those with these names, whose search the command opens, goes on with or closes
abbrev pub searched : List (List ℕ) → Spoken → Option ℕ
searched sheets (Begin sheet) = place_in sheets sheet
searched sheets (Slice sheet units) = place_in sheets sheet
searched sheets (Stop sheet) = place_in sheets sheet
searched sheets _ = None

-- the searches of all sheets but that of the command are as they were
abbrev pub OthersStay : SessionState → Spoken → SessionState → Type 0
OthersStay before command after = (sheet : ℕ) → searched before.book.sheets command ≢ Some sheet → open_search after sheet ≡ open_search before sheet

-- so it is after every command, whatever it answers
abbrev pub OtherSearchesStay : Type 0
OtherSearchesStay = (rule : Rule) (before after : SessionState) (command : Spoken) (a : Answer) → Step rule before command a after → OthersStay before command after

-- no command changes which sheets there are
abbrev pub SheetsStay : Type 0
SheetsStay = (rule : Rule) (before after : SessionState) (command : Spoken) (a : Answer) → Step rule before command a after → after.book.sheets ≡ before.book.sheets

-- after a slice that goes further, the units are counted on where the search had the sheet's model, and from 0 where it hadn't
pub record CountsOn (old new : Opened) (units count : ℕ) : Type 0 where
  pub same : old.model ≡ new.model → count ≡ old.units + units
  pub other : old.model ≢ new.model → count ≡ units
  pub count_is : count ≡ new.units

abbrev pub Counts : SessionState → Spoken → Answer → SessionState → Type 0
Counts before (Slice name text) (answer.More count) after =
    (sheet units : ℕ) (old new : Opened) → place_in before.book.sheets name ≡ Some sheet → units_in text ≡ Some units
    → open_search before sheet ≡ Some old → open_search after sheet ≡ Some new → CountsOn old new units count
Counts before command a after = ⊤

abbrev pub SlicesCountOn : Type 0
SlicesCountOn = (rule : Rule) (before after : SessionState) (command : Spoken) (a : Answer) → Step rule before command a after → Counts before command a after

-- ---- refusals
-- neither the workbook nor the budget is another one, nor do other files count as changed
pub record IsUnchanged (before after : SessionState) : Type 0 where
  pub book : after.book ≡ before.book
  pub changed : after.changed ≡ before.changed
  pub budget : after.budget ≡ before.budget

-- so it is after every refusal; a slice that is refused may have closed its search
abbrev pub RefusedChangesNothing : Type 0
RefusedChangesNothing = (rule : Rule) (before after : SessionState) (command : Spoken) (a : Answer) → Step rule before command a after → is_refusal before.book.sheets a ≡ true
    → IsUnchanged before after

-- ---- limits
-- at most 8 sheets have an open search, and a search may spend at most 1,000,000 units
pub record LimitsOfSearchesAre : Type 0 where
  pub searches : MOST_SEARCHES ≡ 8
  pub units : MOST_UNITS ≡ 1000000

-- ---- lists of commands
-- the answers to some commands in order, each by the picker that it is lent, and the session behind them
pub data Steps : SessionState → List Spoken → List Answer → SessionState → Type 0 where
  none : {s : SessionState} → Steps s [] [] s
  more : (rule : Rule) {s m e : SessionState} {command : Spoken} {commands : List Spoken} {a : Answer} {rest : List Answer}
      → Step rule s command a m → Steps m commands rest e → Steps s (command ∷ commands) (a ∷ rest) e

-- whatever commands come that don't open, go on with or close the search of a sheet, edits, solves and slices of others among them, it is
-- as it was
abbrev pub SearchesAreApart : Type 0
SearchesAreApart = (before after : SessionState) (commands : List Spoken) (answers : List Answer) (sheet : ℕ)
    → Steps before commands answers after → All (λ command. searched before.book.sheets command ≢ Some sheet) commands
    → open_search after sheet ≡ open_search before sheet
