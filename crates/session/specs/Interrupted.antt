-- What stands after want of memory, which comes only where memory was taken.
use Rattle.std.specs.Prelude.{◌≡◌, ◌≢◌, ◌⊎◌, [], IsSome, Result, Ok, Err}
use Rattle.cell_refs.specs.Names.{place_in}
use Rattle.commands.specs.Commands.{Spoken, Set, Clear, Name, Unname, Show, Model, Solve, Prices, Begin, Slice, Stop, Budget, Cert, Save, Unknown}
use Rattle.commands.specs.Locating.{cell_named}
use Rattle.node_pick.specs.Rules.{Rule}
use Rattle.commands.specs.declared.answer.Answer.{Answer}
use Rattle.session.specs.Cuts.{Cut, IsUnderWay, cut_of, sheet_to_begin}
use Rattle.session.specs.Edits.{cell_to_set, home_to_name, home_to_unname}
use Rattle.session.specs.Saves.{files_to_save}
use Rattle.session.specs.States.{SessionState}
use Rattle.session.specs.Steps.{Applies}

-- nothing is refused
abbrev pub IsAllowed : {A E : Type 0} → Result A E → Type 0
IsAllowed (Ok x) = Unit {0}
IsAllowed (Err e) = ⊥

-- the command is none that is refused before any memory is taken, and none that takes no memory: a text is put where it may be and isn't
-- empty, a name is given or removed where it may be, the cell to be shown or the sheet to be modelled, solved, priced or certified is there, a search
-- may be opened, one is open that is to go on, or there is a file to be saved
abbrev pub TakesMemory : SessionState → Spoken → Type 0
TakesMemory s (Set address text) = IsAllowed (cell_to_set s.book address text) × (text ≢ [])
TakesMemory s (Clear address) = ⊥
TakesMemory s (Name sheet name text) = IsAllowed (home_to_name s.book sheet name text)
TakesMemory s (Unname sheet name) = IsAllowed (home_to_unname s.book sheet name)
TakesMemory s (Show address) = IsAllowed (cell_named s.book.sheets address)
TakesMemory s (Model sheet) = IsSome (place_in s.book.sheets sheet)
TakesMemory s (Solve sheet) = IsSome (place_in s.book.sheets sheet)
TakesMemory s (Prices sheet) = IsSome (place_in s.book.sheets sheet)
TakesMemory s (Begin sheet) = IsAllowed (sheet_to_begin s sheet)
TakesMemory s (Slice sheet units) = IsAllowed (cut_of s sheet units)
TakesMemory s (Stop sheet) = ⊥
TakesMemory s (Budget units) = ⊥
TakesMemory s (Cert sheet) = IsSome (place_in s.book.sheets sheet)
TakesMemory s Save = files_to_save s ≢ []
TakesMemory s Unknown = ⊥

-- the session is as it was before the command
abbrev pub IsUntouched : SessionState → Spoken → SessionState → Type 0
IsUntouched before command after = TakesMemory before command × (after ≡ before)

-- or as it is once the command is answered: what was to be written was written, and memory is wanted for what is kept beside the workbook
abbrev pub IsStopped : Rule → SessionState → Spoken → SessionState → Type 0
IsStopped rule before command after = TakesMemory before command × ((after ≡ before) ⊎ ((a : Answer) × Applies rule before command a after))

-- an edit or a solve is one or the other; a slice closes no search and opens none anew, and may have spent units of its search; after any other command
-- the session is as it was
abbrev pub IsInterrupted : Rule → SessionState → Spoken → SessionState → Type 0
IsInterrupted rule before (Slice sheet units) after =
    IsUntouched before (Slice sheet units) after ⊎ ((c : Cut) × (cut_of before sheet units ≡ Ok c) × IsUnderWay rule before c after)
IsInterrupted rule before (Set address text) after = IsStopped rule before (Set address text) after
IsInterrupted rule before (Name sheet name text) after = IsStopped rule before (Name sheet name text) after
IsInterrupted rule before (Unname sheet name) after = IsStopped rule before (Unname sheet name) after
IsInterrupted rule before (Solve sheet) after = IsStopped rule before (Solve sheet) after
IsInterrupted rule before command after = IsUntouched before command after
