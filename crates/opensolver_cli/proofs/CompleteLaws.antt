-- A run of which no call fails answers all records, or memory runs out.
use Rattle.std.proofs.Common.{◌≡◌, ◌≢◌, List, ℕ, Option, Some, None, inl, inr, refl, subst}
use Rattle.std.specs.Prelude.{◌⊎◌, Result, Ok}
use Rattle.solver_io.specs.Causes.{Rose}
use Rattle.solver_io.specs.Files.{Files}
use Rattle.sheet_csv.specs.Sheet.{Record}
use Rattle.workbook.specs.State.{State}
use Rattle.command_line.specs.Words.{Asked, Job, MadeUp, Script}
use Rattle.run_inputs.specs.declared.stop.Stop.{Stop}
use Rattle.run_inputs.specs.declared.status.Status.{Status}
use Rattle.run_inputs.specs.declared.status.Status.TheVariants as status
use Rattle.opensolver_cli.specs.Answering.{IsSinkFault}
use Rattle.opensolver_cli.specs.Completeness.{CanBeAnswered, EndsExactly, EndsFor, EndsForTold, IsComplete, IsEarly, IsWhole, NothingFailed}
use Rattle.opensolver_cli.specs.Headline.{IsCounted, IsReadFault}
use Rattle.opensolver_cli.specs.Outside.{FolderFailed, Outside, SinkFailed, written}

module _ (before after : Outside) (nothing : NothingFailed before after) where
  no_read : IsReadFault before after → ⊥
  no_read (inl h) = nothing.folder_reads h.0
  no_read (inr h) = nothing.script_reads h.1

  no_write : SinkFailed (written before) (written after) ⊎ FolderFailed (written before) (written after) → ⊥
  no_write (inl h) = nothing.sink_writes h.rose
  no_write (inr h) = nothing.folder_writes h.rose

  early : (ends : Status) → IsCounted before after ends → IsEarly ends → ends ≡ status.Memory
  early status.ReadFault counts h = absurd (no_read (counts.read_fault refl))
  early status.WriteFault counts h = absurd (no_write (counts.write_fault refl))
  early status.Memory counts h = refl
  early _ counts h = absurd h

  whole : (ends : Status) → IsCounted before after ends → IsWhole ends ⊎ IsEarly ends → IsWhole ends ⊎ (ends ≡ status.Memory)
  whole ends counts (inl h) = inl h
  whole ends counts (inr h) = inr (early ends counts h)

-- by what is found
told : (job : Job) (before : Outside) (ends : Status) (can : CanBeAnswered job.named before) → EndsForTold job.named before.files before.left ends → IsWhole ends ⊎ IsEarly ends
told job before ends can h =
    let by_files : EndsForTold job.named (Some can.files) before.left ends = subst (λ (files : Option Files). EndsForTold job.named files before.left ends) can.files_are h in
    let by_both : EndsForTold job.named (Some can.files) (Some can.script) ends = subst (λ (left : Option (List ℕ)). EndsForTold job.named (Some can.files) left ends) can.script_is by_files in
    subst (λ (ready : Result (State × List Record) Stop). EndsFor ready ends) can.finds by_both

pub job_complete : (job : Job) (asked : Option Asked) (before after : Outside) (ends : Status) → Some (Script job) ≡ asked → EndsExactly (Some (Script job)) before.files before.left ends
    → IsCounted before after ends → IsComplete asked before after ends
job_complete job asked before after ends is exactly counts =
    subst (λ (z : Option Asked). IsComplete z before after ends) is (λ can nothing. whole before after nothing ends counts (told job before ends can exactly))

-- of a workbook that is made up, by the sink alone
sink_early : (before now : ℕ) (ends : Status) → ¬ (Rose before now) → (ends ≢ status.ReadFault) → IsSinkFault before now ends → IsEarly ends → ends ≡ status.Memory
sink_early before now status.ReadFault quiet read cause h = absurd (read refl)
sink_early before now status.WriteFault quiet read cause h = absurd (quiet cause)
sink_early before now status.Memory quiet read cause h = refl
sink_early before now _ quiet read cause h = absurd h

sink_whole : (before now : ℕ) (ends : Status) → ¬ (Rose before now) → (ends ≢ status.ReadFault) → IsSinkFault before now ends → IsWhole ends ⊎ IsEarly ends → IsWhole ends ⊎ (ends ≡ status.Memory)
sink_whole before now ends quiet read cause (inl h) = inl h
sink_whole before now ends quiet read cause (inr h) = inr (sink_early before now ends quiet read cause h)

pub size_complete : (size : ℕ) (asked : Option Asked) (before after : Outside) (ends : Status) → Some (MadeUp size) ≡ asked → IsWhole ends ⊎ IsEarly ends → (ends ≢ status.ReadFault)
    → IsSinkFault before.sink_writes after.sink_writes ends → IsComplete asked before after ends
size_complete size asked before after ends is exactly read cause =
    subst (λ (z : Option Asked). IsComplete z before after ends) is (λ formed quiet. sink_whole before.sink_writes after.sink_writes ends quiet read cause exactly)

pub none_complete : (asked : Option Asked) (before after : Outside) (ends : Status) → None ≡ asked → IsComplete asked before after ends
none_complete asked before after ends is = subst (λ (z : Option Asked). IsComplete z before after ends) is (λ formed nothing. absurd formed)

pub memory_complete : (asked : Option Asked) (before after : Outside) → IsComplete asked before after status.Memory
memory_complete asked before after = λ formed nothing. inr refl
