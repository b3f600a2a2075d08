-- Each status comes exactly where its cause stands, and a run of which no call fails answers all records, or memory runs out.
use Rattle.std.specs.Prelude.{◌≡◌, ◌≢◌, ◌⊎◌, List, ℕ, Option, Some, None, Result, Ok, Err, ⊤}
use Rattle.solver_io.specs.Causes.{Rose}
use Rattle.solver_io.specs.Files.{Files}
use Rattle.sheet_csv.specs.Sheet.{Record}
use Rattle.workbook.specs.State.{State}
use Rattle.opensolver_cli.specs.Outside.{Outside}
use Rattle.run_inputs.specs.Findings.{found}
use Rattle.run_inputs.specs.Stops.{status_of}
use Rattle.command_line.specs.Words.{Asked, MadeUp, Named, Script}
use Rattle.run_inputs.specs.declared.stop.Stop.{Stop}
use Rattle.run_inputs.specs.declared.status.Status.{Status}
use Rattle.run_inputs.specs.declared.status.Status.TheVariants as status

-- want of memory, or a call of the folder, the script or the sink that failed
abbrev pub IsEarly : Status → Type 0
IsEarly status.ReadFault = ⊤
IsEarly status.WriteFault = ⊤
IsEarly status.Memory = ⊤
IsEarly _ = ⊥

-- every record was answered
abbrev pub IsWhole : Status → Type 0
IsWhole status.Done = ⊤
IsWhole status.Refused = ⊤
IsWhole _ = ⊥

-- what is found decides the status, but for an early end
abbrev pub EndsFor : Result (State × List Record) Stop → Status → Type 0
EndsFor (Ok ready) ends = IsWhole ends ⊎ IsEarly ends
EndsFor (Err stop) ends = (ends ≡ status_of stop) ⊎ IsEarly ends

abbrev pub EndsForTold : Named → Option Files → Option (List ℕ) → Status → Type 0
EndsForTold named (Some files) (Some script) ends = EndsFor (found named files script) ends
EndsForTold named _ _ ends = ends ≢ status.Usage

-- each status exactly, unless the run ends early
abbrev pub EndsExactly : Option Asked → Option Files → Option (List ℕ) → Status → Type 0
EndsExactly None files script ends = (ends ≡ status.Usage) ⊎ IsEarly ends
EndsExactly (Some (Script job)) files script ends = EndsForTold job.named files script ends
EndsExactly (Some (MadeUp size)) files script ends = IsWhole ends ⊎ IsEarly ends

-- ---- runs that answer all records
-- no call of the folder, the script or the sink failed
pub record NothingFailed (before after : Outside) : Type 0 where
  pub folder_reads : ¬ (Rose before.folder_reads after.folder_reads)
  pub folder_writes : ¬ (Rose before.folder_writes after.folder_writes)
  pub script_reads : ¬ (Rose before.script_reads after.script_reads)
  pub sink_writes : ¬ (Rose before.sink_writes after.sink_writes)

-- the folder and the script tell their bytes, and what is found of them is a workbook and records
pub record CanBeAnswered (named : Named) (before : Outside) : Type 0 where
  pub files : Files
  pub script : List ℕ
  pub files_are : before.files ≡ Some files
  pub script_is : before.left ≡ Some script
  pub ready : State × List Record
  pub finds : found named files script ≡ Ok ready

-- the words ask for something, and where they name files, these can be answered
abbrev pub IsWellFormed : Option Asked → Outside → Type 0
IsWellFormed None before = ⊥
IsWellFormed (Some (Script job)) before = CanBeAnswered job.named before
IsWellFormed (Some (MadeUp size)) before = ⊤

-- for a workbook that is made up it is enough that no call of the sink failed
abbrev pub NothingFailedFor : Option Asked → Outside → Outside → Type 0
NothingFailedFor (Some (MadeUp size)) before after = ¬ (Rose before.sink_writes after.sink_writes)
NothingFailedFor asked before after = NothingFailed before after

abbrev pub IsComplete : Option Asked → Outside → Outside → Status → Type 0
IsComplete asked before after ends = IsWellFormed asked before → NothingFailedFor asked before after → IsWhole ends ⊎ (ends ≡ status.Memory)
