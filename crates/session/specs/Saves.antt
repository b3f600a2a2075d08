-- The files that are saved.
use Rattle.std.specs.Prelude.{◌≡◌, ◌+◌, ℕ, Bool, true, false, List, [], ◌∷◌, ◌++◌, Some, None}
use Rattle.saved_sheets.specs.Saving.{name_bytes, sheet_bytes}
use Rattle.workbook.specs.State.{State}
use Rattle.commands.specs.Saved.{SavedFile}
use Rattle.commands.specs.declared.answer.Answer.{Answer}
use Rattle.commands.specs.declared.answer.Answer.TheVariants as answer
use Rattle.session.specs.States.{SessionState}

-- the files of the sheets that have changed, from the sheet of a number on
abbrev pub changed_from : State → ℕ → List Bool → List SavedFile
changed_from book sheet [] = []
changed_from book sheet (true ∷ more) = record { sheet = Some sheet; bytes = sheet_bytes book sheet } ∷ changed_from book (sheet + 1) more
changed_from book sheet (false ∷ more) = changed_from book (sheet + 1) more

abbrev pub changed_names : State → Bool → List SavedFile
changed_names book true = record { sheet = None; bytes = name_bytes book } ∷ []
changed_names book false = []

-- the files of the sheets that have changed, in their order, and then that of the names if it has
abbrev pub files_to_save : SessionState → List SavedFile
files_to_save s = changed_from s.book 0 s.changed.sheets ++ changed_names s.book s.changed.names

-- these files are answered, and the session is as before
abbrev pub Saves : SessionState → Answer → SessionState → Type 0
Saves before (answer.ToSave files) after = (files.items ≡ files_to_save before) × (after ≡ before)
Saves before _ after = ⊥
