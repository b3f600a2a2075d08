-- How the reading of files and of the script ends.
use Rattle.std.specs.Prelude.{◌≡◌, ◌≢◌, ◌⊎◌, ◌≤◌, ◌<◌, ℕ, List, [], length, Option, Some, Result, Ok, Err, Vec, IsUtf8, unwrap_or, ⊤}
use Rattle.std.specs.Global.{Global}
use Rattle.std.specs.Str.Lossy.{utf8_valid_len}
use Rattle.solver_io.specs.Causes.{Rose}
use Rattle.solver_io.specs.Files.{Files}
use Rattle.sheet_csv.specs.Sheet.{Record, sheet_records}
use Rattle.workbook.specs.Files.{SheetFile}
use Rattle.workbook.specs.State.{State}
use Rattle.run_inputs.specs.Findings.{book_in, file_held, found, records_in, sheet_files, sheets_held}
use Rattle.command_line.specs.Words.{Named, stem_of}
use Rattle.cell_refs.specs.declared.limits.TheConstants.{FILE_BYTES}
use Rattle.run_inputs.specs.declared.stop.End.{End}
use Rattle.run_inputs.specs.declared.stop.End.TheVariants as end
use Rattle.run_inputs.specs.declared.stop.Cause.TheVariants as cause
use Rattle.run_inputs.specs.declared.stop.Input.{Input}
use Rattle.run_inputs.specs.declared.stop.Input.TheVariants as input
use Rattle.run_inputs.specs.declared.stop.Limit.TheVariants as limit
use Rattle.run_inputs.specs.declared.stop.Stop.TheVariants.{TooMuch, BadInput}

-- a call of the outside failed only where the count of faults rose, and after every other end that count is as before
abbrev pub EndCause : {T : Type 0} → ℕ → ℕ → Result T End → Type 0
EndCause before now (Ok x) = now ≡ before
EndCause before now (Err (end.Stopped stop)) = now ≡ before
EndCause before now (Err end.Failed) = Rose before now
EndCause before now (Err end.Memory) = now ≡ before

-- ---- files
-- the bytes that are held for an input, or why they can't be taken; a failed call and want of memory tell nothing
abbrev pub ReadsFile : Input → Option (List ℕ) → Result (Vec ℕ Global) End → Type 0
ReadsFile of held (Ok bytes) = file_held of held ≡ Ok bytes.items
ReadsFile of held (Err (end.Stopped stop)) = file_held of held ≡ Err stop
ReadsFile of held (Err _) = ⊤

-- a file that was read has a name and is not too long, also where the folder tells nothing
pub record CanBeOpened (f : SheetFile) : Type 0 where
  pub named : f.stem ≢ []
  pub fits : length f.bytes ≤ FILE_BYTES

-- the file of a sheet, with the name in its word, or why it can't be taken
abbrev pub ReadsSheet : Input → List ℕ → Option (List ℕ) → Result SheetFile End → Type 0
ReadsSheet of word held (Ok file) = (file_held of held ≡ Ok file.bytes) × (file.stem ≡ unwrap_or (stem_of word) [])
ReadsSheet of word held (Err (end.Stopped stop)) = file_held of held ≡ Err stop
ReadsSheet of word held (Err _) = ⊤

-- the files of all sheets, or why the first of them can't be taken
abbrev pub ReadsSheets : Files → List (List ℕ) → Result (Vec SheetFile Global) End → Type 0
ReadsSheets files words (Ok read) = (held : List (List ℕ)) × (sheets_held files 0 words ≡ Ok held) × (read.items ≡ sheet_files words held)
ReadsSheets files words (Err (end.Stopped stop)) = sheets_held files 0 words ≡ Err stop
ReadsSheets files words (Err _) = ⊤

-- the workbook that the files spell, or why there is none
abbrev pub OpensFiles : Named → Files → Result State End → Type 0
OpensFiles named files (Ok book) = book_in named files ≡ Ok book
OpensFiles named files (Err (end.Stopped stop)) = book_in named files ≡ Err stop
OpensFiles named files (Err _) = ⊤

-- ---- the script
-- all bytes of the script, where they are not too many, and nothing of it is left
abbrev pub ReadsScript : List ℕ → Option (List ℕ) → Result (Vec ℕ Global) End → Type 0
ReadsScript script left (Ok bytes) = (bytes.items ≡ script) × (length script ≤ FILE_BYTES) × (left ≡ Some [])
ReadsScript script left (Err (end.Stopped stop)) = (stop ≡ TooMuch limit.ScriptBytes) × (FILE_BYTES < length script)
ReadsScript script left (Err _) = ⊤

-- the records of the script, where it is text
abbrev pub ReadsRecords : List ℕ → Result (List Record) End → Type 0
ReadsRecords script (Ok records) = IsUtf8 script × (records ≡ sheet_records script)
ReadsRecords script (Err (end.Stopped stop)) = (¬ (IsUtf8 script)) × (stop ≡ BadInput input.Script (cause.NotUtf8 (utf8_valid_len script)))
ReadsRecords script (Err end.Failed) = ⊥
ReadsRecords script (Err end.Memory) = ⊤

-- what is found of the script, and for its records nothing of it is left
abbrev pub FindsCommands : List ℕ → Option (List ℕ) → Result (List Record) End → Type 0
FindsCommands script left (Ok records) = (records_in script ≡ Ok records) × (left ≡ Some [])
FindsCommands script left (Err (end.Stopped stop)) = records_in script ≡ Err stop
FindsCommands script left (Err _) = ⊤

-- ---- both
-- what a run finds; a failed call and want of memory tell nothing
abbrev pub FindsAll : Named → Files → List ℕ → Option (List ℕ) → Result (State × List Record) End → Type 0
FindsAll named files script left (Ok ready) = (found named files script ≡ Ok ready) × (left ≡ Some [])
FindsAll named files script left (Err (end.Stopped stop)) = found named files script ≡ Err stop
FindsAll named files script left (Err _) = ⊤

-- ---- counts
-- a script isn't touched
abbrev pub IsSourceLeft : Option (List ℕ) → Option (List ℕ) → ℕ → ℕ → Type 0
IsSourceLeft left left_now faults faults_now = (left_now ≡ left) × (faults_now ≡ faults)

-- a read of the folder failed, and the script wasn't touched; or a read of the script did, and none of the folder
abbrev pub IsFaultOf : ℕ → ℕ → Option (List ℕ) → Option (List ℕ) → ℕ → ℕ → Type 0
IsFaultOf reads reads_now left left_now faults faults_now =
    (Rose reads reads_now × IsSourceLeft left left_now faults faults_now) ⊎ ((reads_now ≡ reads) × Rose faults faults_now)
