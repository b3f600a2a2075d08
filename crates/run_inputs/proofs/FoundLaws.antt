-- What a run finds, from what was read.
use Rattle.std.proofs.Common.{◌≡◌, ◌≤◌, [], ℕ, List, Option, Some, None, IfSome, length, refl, ap, sym, subst, ◌∙◌}
use Rattle.std.specs.Prelude.{Result, Ok, Err, Vec}
use Rattle.std.specs.Global.{Global}
use Rattle.std.specs.FinMap.{get}
use Rattle.std.proofs.lemmas.Bool.{lt-ltb, le-ltb}
use Rattle.std.proofs.lemmas.Str.{is_utf8-from_IsUtf8}
use Rattle.cell_refs.specs.declared.limits.TheConstants.{FILE_BYTES, SHEETS}
use Rattle.solver_io.specs.Files.{Files}
use Rattle.sheet_csv.specs.Sheet.{Record}
use Rattle.workbook.specs.Files.{SheetFile}
use Rattle.workbook.specs.Opening.{Opens}
use Rattle.workbook.specs.State.{State}
use Rattle.workbook.specs.declared.fault.OpenFault.{OpenFault}
use Rattle.run_inputs.specs.Findings.{book_in, sheet_files}
use Rattle.run_inputs.specs.Inputs.{FindsAll, FindsCommands, OpensFiles, ReadsFile, ReadsRecords, ReadsScript, ReadsSheets}
use Rattle.run_inputs.specs.Stops.{open_stop}
use Rattle.command_line.specs.Words.{Named}
use Rattle.run_inputs.specs.declared.stop.End.{End}
use Rattle.run_inputs.specs.declared.stop.End.TheVariants as end
use Rattle.run_inputs.specs.declared.stop.Input.TheVariants as input
use Rattle.run_inputs.specs.declared.stop.Stop.{Stop}
use Rattle.run_inputs.proofs.OpenLaws as open_laws

-- ---- the files
pub names_end : (content : Option Files) (named : Named) (e : End) → length named.sheets ≤ SHEETS → IfSome content (λ files. ReadsFile input.Names (get files named.names) (Err e))
    → IfSome content (λ files. OpensFiles named files (Err e))
names_end None named e few h = tt
names_end (Some files) named (end.Stopped stop) few h = rw (le-ltb SHEETS (length named.sheets) few, h) refl
names_end (Some files) named end.Failed few h = tt
names_end (Some files) named end.Memory few h = tt

pub sheets_end : (content : Option Files) (named : Named) (names : Vec ℕ Global) (e : End) → length named.sheets ≤ SHEETS → IfSome content (λ files. ReadsFile input.Names (get files named.names) (Ok names))
    → IfSome content (λ files. ReadsSheets files named.sheets (Err e)) → IfSome content (λ files. OpensFiles named files (Err e))
sheets_end None named names e few h k = tt
sheets_end (Some files) named names (end.Stopped stop) few h k = rw (le-ltb SHEETS (length named.sheets) few, h, k) refl
sheets_end (Some files) named names end.Failed few h k = tt
sheets_end (Some files) named names end.Memory few h k = tt

-- what was opened are the files that were read
opens_read : (given sheets : List SheetFile) (bytes names : List ℕ) (r : Result State OpenFault) → given ≡ sheets → bytes ≡ names → Opens given bytes r → Opens sheets names r
opens_read given sheets bytes names r e f opens = subst (λ (z : List ℕ). Opens sheets z r) f (subst (λ (z : List SheetFile). Opens z bytes r) e opens)

pub files_open : (content : Option Files) (named : Named) (names : Vec ℕ Global) (sheets : Vec SheetFile Global) (given : List SheetFile) (bytes : List ℕ) (book : State) → length named.sheets ≤ SHEETS
    → IfSome content (λ files. ReadsFile input.Names (get files named.names) (Ok names)) → IfSome content (λ files. ReadsSheets files named.sheets (Ok sheets))
    → given ≡ sheets.items → bytes ≡ names.items → Opens given bytes (Ok book) → IfSome content (λ files. OpensFiles named files (Ok book))
files_open None named names sheets given bytes book few h k e n opens = tt
files_open (Some files) named names sheets given bytes book few h (held, is, are) e n opens =
    let read = open_laws.opens (sheet_files named.sheets held) names.items book (opens_read given (sheet_files named.sheets held) bytes names.items (Ok book) (e ∙ are) n opens) in
    rw (le-ltb SHEETS (length named.sheets) few, h, is) read

pub files_stop : (content : Option Files) (named : Named) (names : Vec ℕ Global) (sheets : Vec SheetFile Global) (given : List SheetFile) (bytes : List ℕ) (x : OpenFault) (stop : Stop) → length named.sheets ≤ SHEETS
    → IfSome content (λ files. ReadsFile input.Names (get files named.names) (Ok names)) → IfSome content (λ files. ReadsSheets files named.sheets (Ok sheets))
    → given ≡ sheets.items → bytes ≡ names.items → Opens given bytes (Err x) → open_stop x ≡ Some stop → IfSome content (λ files. OpensFiles named files (Err (end.Stopped stop)))
files_stop None named names sheets given bytes x stop few h k e n opens is = tt
files_stop (Some files) named names sheets given bytes x stop few h (held, got, are) e n opens is =
    let read = open_laws.stops (sheet_files named.sheets held) names.items x stop is (opens_read given (sheet_files named.sheets held) bytes names.items (Err x) (e ∙ are) n opens) in
    rw (le-ltb SHEETS (length named.sheets) few, h, got) read

-- ---- the script
pub script_end : (before after : Option (List ℕ)) (e : End) → IfSome before (λ script. ReadsScript script after (Err e)) → IfSome before (λ script. FindsCommands script after (Err e))
script_end None after e h = tt
script_end (Some script) after (end.Stopped stop) h = rw (lt-ltb FILE_BYTES (length script) h.1) (ap Err (sym h.0))
script_end (Some script) after end.Failed h = tt
script_end (Some script) after end.Memory h = tt

finds_records : (script : List ℕ) (after : Option (List ℕ)) (r : Result (List Record) End) → length script ≤ FILE_BYTES → after ≡ Some [] → ReadsRecords script r → FindsCommands script after r
finds_records script after (Ok records) fits to_end h = (rw (le-ltb FILE_BYTES (length script) fits, is_utf8-from_IsUtf8 script h.0) (ap Ok (sym h.1)), to_end)
finds_records script after (Err (end.Stopped stop)) fits to_end h = rw (le-ltb FILE_BYTES (length script) fits, open_laws.no_text script h.0) (ap Err (sym h.1))
finds_records script after (Err end.Failed) fits to_end h = absurd h
finds_records script after (Err end.Memory) fits to_end h = tt

pub script_read : (before after : Option (List ℕ)) (bytes : Vec ℕ Global) (r : Result (List Record) End) → IfSome before (λ script. ReadsScript script after (Ok bytes)) → ReadsRecords bytes.items r
    → IfSome before (λ script. FindsCommands script after r)
script_read None after bytes r h k = tt
script_read (Some script) after bytes r (is, fits, to_end) k = finds_records script after r fits to_end (subst (λ (z : List ℕ). ReadsRecords z r) is k)

-- ---- both
pub both_end : (content : Option Files) (before after : Option (List ℕ)) (named : Named) (e : End) → IfSome content (λ files. OpensFiles named files (Err e))
    → IfSome content (λ files. IfSome before (λ script. FindsAll named files script after (Err e)))
both_end None before after named e h = tt
both_end (Some files) None after named e h = tt
both_end (Some files) (Some script) after named (end.Stopped stop) h = rw h refl
both_end (Some files) (Some script) after named end.Failed h = tt
both_end (Some files) (Some script) after named end.Memory h = tt

pub both_found : (content : Option Files) (before after : Option (List ℕ)) (named : Named) (book : State) (records : List Record) → IfSome content (λ files. OpensFiles named files (Ok book))
    → IfSome before (λ script. FindsCommands script after (Ok records)) → IfSome content (λ files. IfSome before (λ script. FindsAll named files script after (Ok (book, records))))
both_found None before after named book records h k = tt
both_found (Some files) None after named book records h k = tt
both_found (Some files) (Some script) after named book records h k = (rw (h, k.0) refl, k.1)

pub script_ends : (content : Option Files) (before after : Option (List ℕ)) (named : Named) (book : State) (e : End) → IfSome content (λ files. OpensFiles named files (Ok book))
    → IfSome before (λ script. FindsCommands script after (Err e)) → IfSome content (λ files. IfSome before (λ script. FindsAll named files script after (Err e)))
script_ends None before after named book e h k = tt
script_ends (Some files) None after named book e h k = tt
script_ends (Some files) (Some script) after named book (end.Stopped stop) h k = rw (h, k) refl
script_ends (Some files) (Some script) after named book end.Failed h k = tt
script_ends (Some files) (Some script) after named book end.Memory h k = tt

-- files that are opened end no run
pub no_stop : (content : Option Files) (named : Named) (book : State) (P : Type 0) → IfSome content (λ files. OpensFiles named files (Ok book))
    → IfSome content (λ files. (stop : Stop) → book_in named files ≡ Err stop → P)
no_stop None named book P h = tt
no_stop (Some files) named book P h = λ stop is. let never : Ok book ≡ Err stop = sym h ∙ is in cc never
