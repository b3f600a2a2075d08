-- Each status comes exactly where its cause stands, and a run of which no call fails makes the check, or memory runs out.
use Rattle.std.specs.Prelude.{◌≡◌, ◌≢◌, ◌⊎◌, Option, Some, None, Ok, Err, ⊤}
use Rattle.solver_io.specs.Causes.{Rose}
use Rattle.solver_io.specs.Files.{Files}
use Rattle.certificate_lines.specs.Cert.{Cert}
use Rattle.workbook.specs.State.{State}
use Rattle.optcheck_cli.specs.Findings.{Finds}
use Rattle.optcheck_cli.specs.Lines.{status_of}
use Rattle.optcheck_cli.specs.Outside.{Outside}
use Rattle.optcheck_cli.specs.Words.{Asked}
use Rattle.optcheck_cli.specs.declared.halt.Halt.{Halt}
use Rattle.optcheck_cli.specs.declared.status.CheckStatus.{CheckStatus}
use Rattle.optcheck_cli.specs.declared.status.CheckStatus.TheVariants as status

-- want of memory, or a call of the folder or the sink that failed
abbrev pub IsEarly : CheckStatus → Type 0
IsEarly status.ReadFault = ⊤
IsEarly status.WriteFault = ⊤
IsEarly status.Memory = ⊤
IsEarly _ = ⊥

-- the check was made
abbrev pub IsJudged : CheckStatus → Type 0
IsJudged status.Yes = ⊤
IsJudged status.No = ⊤
IsJudged _ = ⊥

-- what is found decides the status, but for an early end
pub record EndsFor (asked : Asked) (files : Files) (ends : CheckStatus) : Type 0 where
  pub judged : (book : State) (cert : Cert) → Finds asked files (Ok (book, cert)) → IsJudged ends ⊎ IsEarly ends
  pub halted : (cause : Halt) → Finds asked files (Err cause) → (ends ≡ status_of cause) ⊎ IsEarly ends

abbrev pub EndsForTold : Asked → Option Files → CheckStatus → Type 0
EndsForTold asked None ends = ends ≢ status.Usage
EndsForTold asked (Some files) ends = EndsFor asked files ends × (ends ≢ status.Usage)

-- each status exactly, unless the run ends early
abbrev pub EndsExactly : Option Asked → Option Files → CheckStatus → Type 0
EndsExactly None files ends = (ends ≡ status.Usage) ⊎ IsEarly ends
EndsExactly (Some asked) files ends = EndsForTold asked files ends

-- ---- runs that make the check
-- no call of the folder or the sink failed
pub record NothingFailed (before after : Outside) : Type 0 where
  pub reads : ¬ (Rose before.folder_reads after.folder_reads)
  pub writes : ¬ (Rose before.sink_writes after.sink_writes)

-- the folder tells its bytes, and a workbook and a certificate are found in them
pub record CanBeChecked (asked : Asked) (before : Outside) : Type 0 where
  pub files : Files
  pub files_are : before.files ≡ Some files
  pub book : State
  pub cert : Cert
  pub finds : Finds asked files (Ok (book, cert))

abbrev pub IsComplete : Option Asked → Outside → Outside → CheckStatus → Type 0
IsComplete None before after ends = ⊤
IsComplete (Some asked) before after ends = CanBeChecked asked before → NothingFailed before after → IsJudged ends ⊎ (ends ≡ status.Memory)
