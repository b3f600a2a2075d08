-- What a run finds before the first record of its script, in the order of its work: the number of sheets, the file of names, the
-- sheets' files in order, the workbook that they spell, and the script.
use Rattle.std.specs.Prelude.{ℕ, suc, not, nat_lt, if◌then◌else◌, List, [], ◌∷◌, length, Option, Some, None, Result, Ok, Err, unwrap_or, option_and_then}
use Rattle.std.specs.FinMap.{get}
use Rattle.std.specs.Str.{is_utf8}
use Rattle.std.specs.Str.Lossy.{utf8_valid_len}
use Rattle.solver_io.specs.Files.{Files}
use Rattle.cell_refs.specs.declared.limits.TheConstants.{FILE_BYTES, SHEETS}
use Rattle.sheet_csv.specs.Sheet.{Record, sheet_records}
use Rattle.workbook.specs.Files.{SheetFile, state_in}
use Rattle.workbook.specs.State.{State}
use Rattle.run_inputs.specs.Opening.{first_of, opening_fault, where_so}
use Rattle.run_inputs.specs.Stops.{open_stop}
use Rattle.command_line.specs.Words.{Named, stem_of}
use Rattle.run_inputs.specs.declared.stop.Limit.TheVariants as limit
use Rattle.run_inputs.specs.declared.stop.Cause.TheVariants as cause
use Rattle.run_inputs.specs.declared.stop.Input.{Input}
use Rattle.run_inputs.specs.declared.stop.Input.TheVariants as input
use Rattle.run_inputs.specs.declared.stop.Stop.{Stop}
use Rattle.run_inputs.specs.declared.stop.Stop.TheVariants.{TooMuch, BadInput}

-- what comes next, where nothing ends the run
abbrev pub and_then : {A B : Type 0} → Result A Stop → (A → Result B Stop) → Result B Stop
and_then (Ok x) next = next x
and_then (Err stop) next = Err stop

-- a thing, where nothing ends the run before it
abbrev pub unless : {A : Type 0} → Option Stop → A → Result A Stop
unless None x = Ok x
unless (Some stop) x = Err stop

-- ---- files
-- the bytes of a file, where the folder holds some for it and they are not too many
abbrev pub file_held : Input → Option (List ℕ) → Result (List ℕ) Stop
file_held of None = Err (BadInput of cause.Missing)
file_held of (Some bytes) = if nat_lt FILE_BYTES (length bytes) then Err (TooMuch limit.FileBytes) else Ok bytes

-- the bytes of the sheets' files from the sheet of a number on, or why the first of them isn't there
abbrev pub sheets_held : Files → ℕ → List (List ℕ) → Result (List (List ℕ)) Stop
sheets_held files place [] = Ok []
sheets_held files place (word ∷ words) =
    and_then (file_held (input.Sheet place) (get files word)) (λ bytes. and_then (sheets_held files (suc place) words) (λ more. Ok (bytes ∷ more)))

-- the files of sheets by their words and bytes
abbrev pub sheet_files : List (List ℕ) → List (List ℕ) → List SheetFile
sheet_files (word ∷ words) (bytes ∷ more) = record { stem = unwrap_or (stem_of word) []; bytes = bytes } ∷ sheet_files words more
sheet_files _ _ = []

-- ---- the workbook
-- the workbook that files spell, or what their first fault is to the run
abbrev pub opened_from : List SheetFile → List ℕ → Result State Stop
opened_from sheets names = unless (option_and_then open_stop (opening_fault sheets names)) (state_in sheets names)

-- the workbook of the files that the words name, or why the run ends before it reads the script
abbrev pub book_in : Named → Files → Result State Stop
book_in named files =
    if nat_lt SHEETS (length named.sheets) then Err (TooMuch limit.Sheets)
    else and_then (file_held input.Names (get files named.names)) (λ names.
    and_then (sheets_held files 0 named.sheets) (λ sheets. opened_from (sheet_files named.sheets sheets) names))

-- ---- the script
-- its records, each of which is a command, or why there are none
abbrev pub records_in : List ℕ → Result (List Record) Stop
records_in script =
    unless (first_of (
    where_so (nat_lt FILE_BYTES (length script)) (TooMuch limit.ScriptBytes)
    ∷ where_so (not (is_utf8 script)) (BadInput input.Script (cause.NotUtf8 (utf8_valid_len script)))
    ∷ [])) (sheet_records script)

-- ---- both
-- the workbook and the records, or the first cause why the run ends before them
abbrev pub found : Named → Files → List ℕ → Result (State × List Record) Stop
found named files script = and_then (book_in named files) (λ book. and_then (records_in script) (λ records. Ok (book, records)))
