-- What a run prints and how it ends, from the words and the bytes of the files.
use Rattle.std.specs.Prelude.{◌≡◌, ◌≢◌, ◌⊎◌, ◌<◌, ℕ, List, length, Option, Some, None, Ok, Err, ⊤}
use Rattle.solver_io.specs.Causes.{Rose}
use Rattle.solver_io.specs.Files.{Files}
use Rattle.cell_refs.specs.declared.limits.TheConstants.{SHEETS}
use Rattle.certificate_lines.specs.Cert.{Cert}
use Rattle.workbook.specs.State.{State}
use Rattle.optcheck_cli.specs.Findings.{Finds}
use Rattle.optcheck_cli.specs.Lines.{halt_line, status_by, status_of, usage_line, verdict_line, yes_line}
use Rattle.optcheck_cli.specs.Outside.{IsFolderKept, Outside, Prints, PrintsNothing, PrintsSome}
use Rattle.optcheck_cli.specs.Verdicts.{HoldsOnSheet, IsVerdict, OfModel, Passes}
use Rattle.optcheck_cli.specs.Words.{Asked}
use Rattle.optcheck_cli.specs.declared.halt.Halt.{Halt}
use Rattle.optcheck_cli.specs.declared.status.CheckStatus.{CheckStatus}
use Rattle.optcheck_cli.specs.declared.status.CheckStatus.TheVariants as status
use Rattle.optcheck_cli.specs.declared.verdict.Verdict.{Verdict}

-- ---- runs over files
-- a workbook and a certificate are found, and this is the verdict, of which this is done
pub record Judges (Done : CheckStatus → List ℕ → Type 0) (asked : Asked) (files : Files) : Type 0 where
  pub book : State
  pub cert : Cert
  pub found : Finds asked files (Ok (book, cert))
  pub verdict : Verdict
  pub is : IsVerdict book cert verdict
  pub done : Done (status_by verdict) (verdict_line book.sheets cert verdict)

-- the claim is true of the first sheet by recalculation, the check passes, and this is done with the line of a yes
pub record Confirms (Done : List ℕ → Type 0) (asked : Asked) (files : Files) : Type 0 where
  pub book : State
  pub cert : Cert
  pub found : Finds asked files (Ok (book, cert))
  pub holds : HoldsOnSheet book cert
  pub passes : OfModel book (λ p. Passes book p cert)
  pub done : Done (yes_line cert.claim cert.value)

-- the run ends before the check for this cause, of which this is done
pub record Halts (Done : CheckStatus → List ℕ → Type 0) (asked : Asked) (files : Files) : Type 0 where
  pub cause : Halt
  pub found : Finds asked files (Err cause)
  pub done : Done (status_of cause) (halt_line asked cause)

-- how a run over these files ends
abbrev pub EndsAs : Asked → Files → Outside → Outside → CheckStatus → Type 0
EndsAs asked files before after status.Yes = Confirms (λ line. Prints line before after) asked files
EndsAs asked files before after status.No = Judges (λ ends line. (ends ≡ status.No) × Prints line before after) asked files
EndsAs asked files before after status.Usage = ⊥
EndsAs asked files before after status.ReadFault = PrintsNothing before after
EndsAs asked files before after status.WriteFault =
    Judges (λ ends line. PrintsSome line before after) asked files ⊎ Halts (λ ends line. PrintsSome line before after) asked files
EndsAs asked files before after status.Memory = PrintsNothing before after
EndsAs asked files before after status.Limit = Halts (λ ends line. (ends ≡ status.Limit) × Prints line before after) asked files
EndsAs asked files before after status.BadInput = Halts (λ ends line. (ends ≡ status.BadInput) × Prints line before after) asked files

-- where the folder tells its bytes
abbrev pub EndsOver : Asked → Option Files → Outside → Outside → CheckStatus → Type 0
EndsOver asked None before after ends = ⊤
EndsOver asked (Some files) before after ends = EndsAs asked files before after ends

-- no file is read where too many sheets are named
abbrev pub LeavesTooMany : Asked → Outside → Outside → Type 0
LeavesTooMany asked before after = SHEETS < length asked.named.sheets → after.folder_reads ≡ before.folder_reads

-- ---- words of another form
-- the usage line is printed; or a part of it, where its write failed; or nothing, where memory ran out
abbrev pub SaysUsage : Outside → Outside → CheckStatus → Type 0
SaysUsage before after status.Usage = Prints usage_line before after
SaysUsage before after status.WriteFault = PrintsSome usage_line before after
SaysUsage before after status.Memory = PrintsNothing before after
SaysUsage before after _ = ⊥

-- ---- all runs
-- what a run does by what its words ask for; no file is read for words of another form
abbrev pub RunsAs : Option Asked → Outside → Outside → CheckStatus → Type 0
RunsAs None before after ends = SaysUsage before after ends × (after.folder_reads ≡ before.folder_reads)
RunsAs (Some asked) before after ends = EndsOver asked before.files before after ends × LeavesTooMany asked before after

-- ---- counts, whatever is told
-- a fault is the status only where the count of such faults rose, and where it isn't the status, that count is as before; a fault of a
-- read comes before anything is printed; and no file is changed
pub record IsCounted (before after : Outside) (ends : CheckStatus) : Type 0 where
  pub read_fault : ends ≡ status.ReadFault → Rose before.folder_reads after.folder_reads
  pub quiet : ends ≡ status.ReadFault → PrintsNothing before after
  pub no_read_fault : ends ≢ status.ReadFault → after.folder_reads ≡ before.folder_reads
  pub write_fault : ends ≡ status.WriteFault → Rose before.sink_writes after.sink_writes
  pub no_write_fault : ends ≢ status.WriteFault → after.sink_writes ≡ before.sink_writes
  pub folder : IsFolderKept before after
