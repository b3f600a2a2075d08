-- What a run prints and saves and how it ends, from the words, the bytes of the files and those of the script.
use Rattle.std.specs.Prelude.{◌≡◌, ◌≢◌, ◌⊎◌, ◌<◌, ℕ, true, false, List, [], length, Option, Some, None, Ok, Err, codes, slice_index_or, ⊤}
use Rattle.solver_io.specs.Causes.{Rose}
use Rattle.solver_io.specs.Files.{Files}
use Rattle.cell_refs.specs.declared.limits.TheConstants.{SHEETS}
use Rattle.sheet_csv.specs.Sheet.{Record}
use Rattle.workbook.specs.State.{State}
use Rattle.session.specs.States.{opened}
use Rattle.opensolver_cli.specs.Courses.{AllAnswered, IsCutByMemory, IsCutByWrite, Setting}
use Rattle.run_inputs.specs.Findings.{book_in, found}
use Rattle.opensolver_cli.specs.MadeUp.{MadeUpEnds}
use Rattle.opensolver_cli.specs.Outside.{FolderFailed, FolderWantsMemory, IsFolderLeft, IsScriptLeft, NoneFailed, NothingIsSeen, Outside, Prints, PrintsSome, SinkFailed, written}
use Rattle.run_inputs.specs.Stops.{status_of, stop_line}
use Rattle.node_pick.specs.Rules.{Rule, free}
use Rattle.command_line.specs.Words.{Asked, Job, MadeUp, Named, Pick, Script, best, depth, oldest}
use Rattle.run_inputs.specs.declared.stop.Stop.{Stop}
use Rattle.run_inputs.specs.declared.status.Status.{Status}
use Rattle.run_inputs.specs.declared.status.Status.TheVariants as status

abbrev pub usage_line : List ℕ
usage_line = codes "usage: opensolver --names FILE [--budget N] [--pick depth|best|oldest] FILE...\n"

-- ---- runs over files
-- the records begin over the workbook that was opened, and over the files as they are
abbrev pub setting_of : Rule → Job → State → Files → Setting
setting_of rule job book files =
    record { named = job.named; rule = rule; start = record { session = opened book job.budget; files = files } }

-- the workbook and the records are found, and the script was read to its end
pub record IsReady (job : Job) (files : Files) (script : List ℕ) (after : Outside) (book : State) (records : List Record) : Type 0 where
  pub finds : found job.named files script ≡ Ok (book, records)
  pub to_its_end : after.left ≡ Some []

-- all that is needed was found, and this was done with it
abbrev pub Goes : (Setting → List Record → Type 0) → Rule → Job → Files → List ℕ → Outside → Type 0
Goes Done rule job files script after =
    (book : State) × (records : List Record) × IsReady job files script after book records × Done (setting_of rule job book files) records

-- the run ends before the first record for this cause
abbrev pub Stops : (Stop → Type 0) → Job → Files → List ℕ → Type 0
Stops Done job files script = (stop : Stop) × (found job.named files script ≡ Err stop) × Done stop

-- how a run over these files and this script ends
abbrev pub EndsAs : Rule → Job → Files → List ℕ → Outside → Outside → Status → Type 0
EndsAs rule job files script before after status.Done =
    Goes (λ setting records. AllAnswered setting records (written before) (written after) false) rule job files script after
EndsAs rule job files script before after status.Refused =
    Goes (λ setting records. AllAnswered setting records (written before) (written after) true) rule job files script after
EndsAs rule job files script before after status.Usage = ⊥
EndsAs rule job files script before after status.ReadFault = NothingIsSeen before after
EndsAs rule job files script before after status.WriteFault =
    Stops (λ stop. PrintsSome (stop_line job.named stop) before after) job files script
    ⊎ Goes (λ setting records. IsCutByWrite setting records (written before) (written after)) rule job files script after
EndsAs rule job files script before after status.Memory =
    NothingIsSeen before after ⊎ Goes (λ setting records. IsCutByMemory setting records (written before) (written after)) rule job files script after
EndsAs rule job files script before after status.Limit =
    Stops (λ stop. (status_of stop ≡ status.Limit) × Prints (stop_line job.named stop) before after) job files script
EndsAs rule job files script before after status.BadInput =
    Stops (λ stop. (status_of stop ≡ status.BadInput) × Prints (stop_line job.named stop) before after) job files script

-- the script isn't touched where the files end the run
abbrev pub KeepsOrder : Named → Files → Outside → Outside → Type 0
KeepsOrder named files before after = (stop : Stop) → book_in named files ≡ Err stop → IsScriptLeft before after

-- where the folder and the script tell their bytes
abbrev pub EndsOver : Rule → Job → Option Files → Option (List ℕ) → Outside → Outside → Status → Type 0
EndsOver rule job (Some files) (Some script) before after ends = EndsAs rule job files script before after ends × KeepsOrder job.named files before after
EndsOver rule job _ _ before after ends = ⊤

-- no file is read where too many sheets are named, nor the script
abbrev pub LeavesTooMany : Named → Outside → Outside → Type 0
LeavesTooMany named before after = SHEETS < length named.sheets → IsFolderLeft before after × IsScriptLeft before after

-- ---- words of another form
-- the usage line is printed; or a part of it, where its write failed; or nothing, where memory ran out
abbrev pub SaysUsage : Outside → Outside → Status → Type 0
SaysUsage before after status.Usage = Prints usage_line before after
SaysUsage before after status.WriteFault = PrintsSome usage_line before after
SaysUsage before after status.Memory = NothingIsSeen before after
SaysUsage before after _ = ⊥

-- ---- all runs
-- a run over the files of a job, by a picker of this rule
abbrev pub RunsScript : Rule → Job → Outside → Outside → Status → Type 0
RunsScript rule job before after ends = EndsOver rule job before.files before.left before after ends × LeavesTooMany job.named before after

-- the rule of the picker that is asked for, among the rules of those that are handed in: for the deepest node, for the greatest bound
-- and for the least number, in this order
abbrev pub rule_of : List Rule → Pick → Rule
rule_of rules depth = slice_index_or rules 0 free
rule_of rules best = slice_index_or rules 1 free
rule_of rules oldest = slice_index_or rules 2 free

-- what a run does by the rules of its pickers and by what its words ask for; where these ask for a workbook that is made up, the first
-- picker is asked, and neither the folder nor the script is touched
abbrev pub RunsAs : List Rule → Option Asked → Outside → Outside → Status → Type 0
RunsAs rules None before after ends = SaysUsage before after ends × IsFolderLeft before after × IsScriptLeft before after
RunsAs rules (Some (Script job)) before after ends = RunsScript (rule_of rules job.pick) job before after ends
RunsAs rules (Some (MadeUp size)) before after ends = MadeUpEnds (rule_of rules depth) size before after ends × IsFolderLeft before after × IsScriptLeft before after

-- ---- counts, whatever is told
-- the folder failed, and the script wasn't touched; or the script did, and the folder didn't
abbrev pub IsReadFault : Outside → Outside → Type 0
IsReadFault before after =
    (Rose before.folder_reads after.folder_reads × IsScriptLeft before after)
    ⊎ ((after.folder_reads ≡ before.folder_reads) × Rose before.script_reads after.script_reads)

-- the ends that leave all files as they were
abbrev pub SavesNothing : Status → Type 0
SavesNothing status.Usage = ⊤
SavesNothing status.ReadFault = ⊤
SavesNothing status.Limit = ⊤
SavesNothing status.BadInput = ⊤
SavesNothing _ = ⊥

-- a fault is the status only where a count of such faults rose, and where it isn't the status, none of these counts did; a fault of
-- a read comes before anything is printed; the count of writes that found no memory rises only where want of memory is the status
pub record IsCounted (before after : Outside) (ends : Status) : Type 0 where
  pub read_fault : ends ≡ status.ReadFault → IsReadFault before after
  pub quiet : ends ≡ status.ReadFault → after.pieces ≡ before.pieces
  pub no_read_fault : ends ≢ status.ReadFault → (after.folder_reads ≡ before.folder_reads) × (after.script_reads ≡ before.script_reads)
  pub write_fault : ends ≡ status.WriteFault → SinkFailed (written before) (written after) ⊎ FolderFailed (written before) (written after)
  pub memory : ends ≡ status.Memory → NoneFailed (written before) (written after) ⊎ FolderWantsMemory (written before) (written after)
  pub no_write_fault : ends ≢ status.WriteFault → ends ≢ status.Memory → NoneFailed (written before) (written after)
  pub unsaved : SavesNothing ends → after.files ≡ before.files
