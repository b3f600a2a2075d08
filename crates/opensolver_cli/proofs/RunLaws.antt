-- How a run ends over the files that the words name.
use Rattle.std.proofs.Common.{◌≡◌, ◌≢◌, ◌<◌, [], ℕ, List, Option, Some, None, IfSome, length, refl, sym, subst, inl, inr}
use Rattle.std.specs.Prelude.{Result, Ok, Err, ◌⊎◌, map}
use Rattle.cell_refs.specs.declared.limits.TheConstants.{SHEETS}
use Rattle.solver_io.specs.Files.{Files}
use Rattle.sheet_csv.specs.Sheet.{Record}
use Rattle.workbook.specs.State.{State}
use Rattle.opensolver_cli.specs.Answering.{AnswersRecords, EndsAnswering, IsPutFault, IsSinkFault, Says}
use Rattle.opensolver_cli.specs.Completeness.{EndsExactly, EndsFor, EndsForTold, IsEarly, IsWhole}
use Rattle.run_inputs.specs.Findings.{book_in, found}
use Rattle.opensolver_cli.specs.Headline.{EndsAs, EndsOver, IsCounted, IsReadFault, LeavesTooMany, RunsAs, RunsScript, SavesNothing, rule_of, setting_of}
use Rattle.run_inputs.specs.Inputs.{FindsAll, IsFaultOf, IsSourceLeft}
use Rattle.opensolver_cli.specs.Outside.{FolderFailed, FolderWantsMemory, IsFolderLeft, IsScriptLeft, NoneFailed, Outside, SinkFailed, Written, put_in, written}
use Rattle.run_inputs.specs.Stops.{status_of, stop_line}
use Rattle.node_pick.specs.Rules.{Rule}
use Rattle.command_line.specs.Words.{Asked, Job, Named, Script}
use Rattle.run_inputs.specs.declared.status.Status.{Status}
use Rattle.run_inputs.specs.declared.status.Status.TheVariants as status
use Rattle.run_inputs.specs.declared.stop.End.TheVariants as end
use Rattle.run_inputs.specs.declared.stop.Stop.{Stop}
use Rattle.run_inputs.specs.declared.stop.Stop.TheVariants.{TooMuch, BadInput}

-- where the files end the run, the script isn't touched
abbrev Order : Named → Outside → Outside → Option Files → Type 0
Order named before after content = IfSome content (λ files. (stop : Stop) → book_in named files ≡ Err stop → IsSourceLeft before.left after.left before.script_reads after.script_reads)

-- what finding leaves of the outside, whatever it finds
pub record IsFound (named : Named) (before after : Outside) : Type 0 where
  pub order : Order named before after before.files
  pub many : SHEETS < length named.sheets → IsFolderLeft before after × IsSourceLeft before.left after.left before.script_reads after.script_reads

script_left : (before after : Outside) → IsSourceLeft before.left after.left before.script_reads after.script_reads → IsScriptLeft before after
script_left before after s = record { left = s.0; reads = s.1 }

leaves : (named : Named) (before after : Outside) → IsFound named before after → LeavesTooMany named before after
leaves named before after f big = let m = f.many big in (m.0, script_left before after m.1)

-- the bytes are told, or they aren't
over : (rule : Rule) (job : Job) (content : Option Files) (left : Option (List ℕ)) (before after : Outside) (r : Status) → content ≡ before.files → left ≡ before.left → IsFound job.named before after
    → IfSome content (λ files. IfSome left (λ script. EndsAs rule job files script before after r)) → RunsScript rule job before after r
over rule job None left before after r f l is h = (subst (λ (z : Option Files). EndsOver rule job z before.left before after r) f tt, leaves job.named before after is)
over rule job (Some files) None before after r f l is h =
    let told : EndsOver rule job (Some files) before.left before after r = subst (λ (z : Option (List ℕ)). EndsOver rule job (Some files) z before after r) l tt in
    (subst (λ (z : Option Files). EndsOver rule job z before.left before after r) f told, leaves job.named before after is)
over rule job (Some files) (Some script) before after r f l is h =
    let order : Order job.named before after (Some files) = subst (Order job.named before after) (sym f) is.order in
    let told : EndsOver rule job (Some files) before.left before after r =
    subst (λ (z : Option (List ℕ)). EndsOver rule job (Some files) z before after r) l (h, λ stop no. script_left before after (order stop no)) in
    (subst (λ (z : Option Files). EndsOver rule job z before.left before after r) f told, leaves job.named before after is)

-- ---- all was found
answered : (rule : Rule) (job : Job) (files : Files) (script : List ℕ) (before after : Outside) (book : State) (records : List Record) (r : Status) → (found job.named files script ≡ Ok (book, records)) × (after.left ≡ Some [])
    → AnswersRecords (setting_of rule job book files) records (written before) (written after) r → EndsAs rule job files script before after r
answered rule job files script before after book records status.Done is h = (book, records, record { finds = is.0; to_its_end = is.1 }, h)
answered rule job files script before after book records status.Refused is h = (book, records, record { finds = is.0; to_its_end = is.1 }, h)
answered rule job files script before after book records status.Usage is h = absurd h
answered rule job files script before after book records status.ReadFault is h = absurd h
answered rule job files script before after book records status.WriteFault is h = inr (book, records, record { finds = is.0; to_its_end = is.1 }, h)
answered rule job files script before after book records status.Memory is (inl nothing) = inl (record { printed = nothing.0.pieces; files = nothing.0.files })
answered rule job files script before after book records status.Memory is (inr cut) = inr (book, records, record { finds = is.0; to_its_end = is.1 }, cut)
answered rule job files script before after book records status.Limit is h = absurd h
answered rule job files script before after book records status.BadInput is h = absurd h

all_answered : (rule : Rule) (job : Job) (content : Option Files) (left : Option (List ℕ)) (before after : Outside) (book : State) (records : List Record) (r : Status)
    → IfSome content (λ files. IfSome left (λ script. FindsAll job.named files script after.left (Ok (book, records))))
    → IfSome content (λ files. AnswersRecords (setting_of rule job book files) records (written before) (written after) r)
    → IfSome content (λ files. IfSome left (λ script. EndsAs rule job files script before after r))
all_answered rule job None left before after book records r is h = tt
all_answered rule job (Some files) None before after book records r is h = tt
all_answered rule job (Some files) (Some script) before after book records r is h = answered rule job files script before after book records r is h

-- the records are answered over the folder as finding has left it, which is as it was
pub answered_over : (rule : Rule) (job : Job) (book : State) (records : List Record) (found_files files_before : Option Files) (found_writes found_wants writes wants : ℕ) (pieces : Option (List (List ℕ))) (faults : ℕ) (after : Written) (r : Status)
    → found_files ≡ files_before → found_writes ≡ writes → found_wants ≡ wants
    → IfSome found_files (λ files. AnswersRecords (setting_of rule job book files) records (put_in found_files found_writes found_wants pieces faults) after r)
    → IfSome files_before (λ files. AnswersRecords (setting_of rule job book files) records (put_in files_before writes wants pieces faults) after r)
answered_over rule job book records found_files files_before found_writes found_wants writes wants pieces faults after r same same_writes same_wants h =
    subst (λ (k : ℕ). IfSome files_before (λ files. AnswersRecords (setting_of rule job book files) records (put_in files_before writes k pieces faults) after r)) same_wants
    (subst (λ (n : ℕ). IfSome files_before (λ files. AnswersRecords (setting_of rule job book files) records (put_in files_before n found_wants pieces faults) after r)) same_writes
    (subst (λ (z : Option Files). IfSome z (λ files. AnswersRecords (setting_of rule job book files) records (put_in z found_writes found_wants pieces faults) after r)) same h))

pub fault_over : (found_files files_before : Option Files) (found_writes found_wants writes wants : ℕ) (pieces : Option (List (List ℕ))) (faults : ℕ) (after : Written) (r : Status) → found_files ≡ files_before → found_writes ≡ writes
    → found_wants ≡ wants → IsPutFault (put_in found_files found_writes found_wants pieces faults) after r → IsPutFault (put_in files_before writes wants pieces faults) after r
fault_over found_files files_before found_writes found_wants writes wants pieces faults after r same same_writes same_wants h =
    subst (λ (k : ℕ). IsPutFault (put_in files_before writes k pieces faults) after r) same_wants
    (subst (λ (n : ℕ). IsPutFault (put_in files_before n found_wants pieces faults) after r) same_writes
    (subst (λ (z : Option Files). IsPutFault (put_in z found_writes found_wants pieces faults) after r) same h))

pub run_answered : (rule : Rule) (job : Job) (before after : Outside) (book : State) (records : List Record) (r : Status) → IsFound job.named before after
    → IfSome before.files (λ files. IfSome before.left (λ script. FindsAll job.named files script after.left (Ok (book, records))))
    → IfSome before.files (λ files. AnswersRecords (setting_of rule job book files) records (written before) (written after) r) → RunsScript rule job before after r
run_answered rule job before after book records r f is h =
    over rule job before.files before.left before after r refl refl f (all_answered rule job before.files before.left before after book records r is h)

-- ---- the run stops before the first record
stopped : (rule : Rule) (job : Job) (files : Files) (script : List ℕ) (before after : Outside) (stop : Stop) (r : Status) → found job.named files script ≡ Err stop
    → Says (stop_line job.named stop) (status_of stop) before.pieces after.pieces r → after.files ≡ before.files → EndsAs rule job files script before after r
stopped rule job files script before after (TooMuch kind) status.Usage is h same = absurd (cc h.0)
stopped rule job files script before after (BadInput of why) status.Usage is h same = absurd (cc h.0)
stopped rule job files script before after stop status.Limit is h same = (stop, is, (h.0, record { printed = h.1; files = same }))
stopped rule job files script before after stop status.BadInput is h same = (stop, is, (h.0, record { printed = h.1; files = same }))
stopped rule job files script before after stop status.WriteFault is h same = inl (stop, is, record { printed = h; files = same })
stopped rule job files script before after stop status.Memory is h same = inl (record { printed = h; files = same })
stopped rule job files script before after (TooMuch kind) status.Done is h same = absurd (cc h.0)
stopped rule job files script before after (BadInput of why) status.Done is h same = absurd (cc h.0)
stopped rule job files script before after (TooMuch kind) status.Refused is h same = absurd (cc h.0)
stopped rule job files script before after (BadInput of why) status.Refused is h same = absurd (cc h.0)
stopped rule job files script before after stop status.ReadFault is h same = absurd h

all_stopped : (rule : Rule) (job : Job) (content : Option Files) (left : Option (List ℕ)) (before after : Outside) (stop : Stop) (r : Status) → after.files ≡ before.files
    → IfSome content (λ files. IfSome left (λ script. FindsAll job.named files script after.left (Err (end.Stopped stop)))) → Says (stop_line job.named stop) (status_of stop) before.pieces after.pieces r
    → IfSome content (λ files. IfSome left (λ script. EndsAs rule job files script before after r))
all_stopped rule job None left before after stop r same is h = tt
all_stopped rule job (Some files) None before after stop r same is h = tt
all_stopped rule job (Some files) (Some script) before after stop r same is h = stopped rule job files script before after stop r is h same

pub run_stopped : (rule : Rule) (job : Job) (before after : Outside) (stop : Stop) (r : Status) → IsFound job.named before after → after.files ≡ before.files
    → IfSome before.files (λ files. IfSome before.left (λ script. FindsAll job.named files script after.left (Err (end.Stopped stop)))) → Says (stop_line job.named stop) (status_of stop) before.pieces after.pieces r
    → RunsScript rule job before after r
run_stopped rule job before after stop r f same is h =
    over rule job before.files before.left before after r refl refl f (all_stopped rule job before.files before.left before after stop r same is h)

-- ---- nothing is seen
unseen : (rule : Rule) (job : Job) (content : Option Files) (left : Option (List ℕ)) (before after : Outside) (r : Status) → (r ≡ status.ReadFault) ⊎ (r ≡ status.Memory) → after.pieces ≡ before.pieces → after.files ≡ before.files
    → IfSome content (λ files. IfSome left (λ script. EndsAs rule job files script before after r))
unseen rule job None left before after r is none same = tt
unseen rule job (Some files) None before after r is none same = tt
unseen rule job (Some files) (Some script) before after r (inl is) none same = rw is (record { printed = none; files = same })
unseen rule job (Some files) (Some script) before after r (inr is) none same = rw is (inl (record { printed = none; files = same }))

pub run_unseen : (rule : Rule) (job : Job) (before after : Outside) (r : Status) → IsFound job.named before after → after.files ≡ before.files → (r ≡ status.ReadFault) ⊎ (r ≡ status.Memory) → after.pieces ≡ before.pieces
    → RunsScript rule job before after r
run_unseen rule job before after r f same is none = over rule job before.files before.left before after r refl refl f (unseen rule job before.files before.left before after r is none same)

-- ---- each status exactly
early : (x : Result (State × List Record) Stop) (r : Status) → IsEarly r → EndsFor x r
early (Ok ready) r h = inr h
early (Err stop) r h = inr h

early_exactly : (job : Job) (content : Option Files) (left : Option (List ℕ)) (r : Status) → IsEarly r → r ≢ status.Usage → EndsForTold job.named content left r
early_exactly job None left r h other = other
early_exactly job (Some files) None r h other = other
early_exactly job (Some files) (Some script) r h other = early (found job.named files script) r h

pub read_fault_exactly : (job : Job) (content : Option Files) (left : Option (List ℕ)) → EndsExactly (Some (Script job)) content left status.ReadFault
read_fault_exactly job content left = early_exactly job content left status.ReadFault tt (λ e. cc e)

pub memory_exactly : (job : Job) (content : Option Files) (left : Option (List ℕ)) → EndsExactly (Some (Script job)) content left status.Memory
memory_exactly job content left = early_exactly job content left status.Memory tt (λ e. cc e)

-- records that were answered
abbrev Answered : Status → Type 0
Answered r = (IsWhole r ⊎ IsEarly r) × (r ≢ status.Usage) × (r ≢ status.ReadFault)

whole_or_early : (r : Status) → EndsAnswering r → Answered r
whole_or_early status.Done h = (inl tt, (λ e. cc e), λ e. cc e)
whole_or_early status.Refused h = (inl tt, (λ e. cc e), λ e. cc e)
whole_or_early status.WriteFault h = (inr tt, (λ e. cc e), λ e. cc e)
whole_or_early status.Memory h = (inr tt, (λ e. cc e), λ e. cc e)
whole_or_early status.Usage h = absurd h
whole_or_early status.ReadFault h = absurd h
whole_or_early status.Limit h = absurd h
whole_or_early status.BadInput h = absurd h

pub answered_exactly : (job : Job) (content : Option Files) (left after : Option (List ℕ)) (book : State) (records : List Record) (r : Status)
    → IfSome content (λ files. IfSome left (λ script. FindsAll job.named files script after (Ok (book, records)))) → EndsAnswering r → EndsExactly (Some (Script job)) content left r
answered_exactly job None left after book records r is h = (whole_or_early r h).1
answered_exactly job (Some files) None after book records r is h = (whole_or_early r h).1
answered_exactly job (Some files) (Some script) after book records r is h = rw is.0 (whole_or_early r h).0

-- a line that was said
said : (stop : Stop) (line : List ℕ) (u v : Option (List (List ℕ))) (r : Status) → Says line (status_of stop) u v r → ((r ≡ status_of stop) ⊎ IsEarly r) × (r ≢ status.Usage) × (r ≢ status.ReadFault)
said (TooMuch kind) line u v status.Usage h = absurd (cc h.0)
said (BadInput of why) line u v status.Usage h = absurd (cc h.0)
said stop line u v status.Limit h = (inl (sym h.0), (λ e. cc e), λ e. cc e)
said stop line u v status.BadInput h = (inl (sym h.0), (λ e. cc e), λ e. cc e)
said stop line u v status.WriteFault h = (inr tt, (λ e. cc e), λ e. cc e)
said stop line u v status.Memory h = (inr tt, (λ e. cc e), λ e. cc e)
said (TooMuch kind) line u v status.Done h = absurd (cc h.0)
said (BadInput of why) line u v status.Done h = absurd (cc h.0)
said (TooMuch kind) line u v status.Refused h = absurd (cc h.0)
said (BadInput of why) line u v status.Refused h = absurd (cc h.0)
said stop line u v status.ReadFault h = absurd h

pub stopped_exactly : (job : Job) (content : Option Files) (left after : Option (List ℕ)) (stop : Stop) (line : List ℕ) (u v : Option (List (List ℕ))) (r : Status)
    → IfSome content (λ files. IfSome left (λ script. FindsAll job.named files script after (Err (end.Stopped stop)))) → Says line (status_of stop) u v r → EndsExactly (Some (Script job)) content left r
stopped_exactly job None left after stop line u v r is h = (said stop line u v r h).1
stopped_exactly job (Some files) None after stop line u v r is h = (said stop line u v r h).1
stopped_exactly job (Some files) (Some script) after stop line u v r is h = rw is (said stop line u v r h).0

-- ---- counts
-- a line changes no file
pub put_by_line : (before after : Outside) (r : Status) → after.folder_writes ≡ before.folder_writes → after.folder_wants ≡ before.folder_wants → IsSinkFault before.sink_writes after.sink_writes r
    → IsPutFault (written before) (written after) r
put_by_line before after status.WriteFault writes wants sink = inl (record { rose = sink; folder = writes; wants = wants })
put_by_line before after status.Done writes wants sink = record { folder = writes; wants = wants; sink = sink }
put_by_line before after status.Refused writes wants sink = record { folder = writes; wants = wants; sink = sink }
put_by_line before after status.Usage writes wants sink = record { folder = writes; wants = wants; sink = sink }
put_by_line before after status.ReadFault writes wants sink = record { folder = writes; wants = wants; sink = sink }
put_by_line before after status.Memory writes wants sink = inl (record { folder = writes; wants = wants; sink = sink })
put_by_line before after status.Limit writes wants sink = record { folder = writes; wants = wants; sink = sink }
put_by_line before after status.BadInput writes wants sink = record { folder = writes; wants = wants; sink = sink }

rose : (u w : Written) (r : Status) → IsPutFault u w r → r ≡ status.WriteFault → SinkFailed u w ⊎ FolderFailed u w
rose u w r h e = rw e at h

wanted : (u w : Written) (r : Status) → IsPutFault u w r → r ≡ status.Memory → NoneFailed u w ⊎ FolderWantsMemory u w
wanted u w r h e = rw e at h

kept : (u w : Written) (r : Status) → IsPutFault u w r → r ≢ status.WriteFault → r ≢ status.Memory → NoneFailed u w
kept u w status.WriteFault h other memory = absurd (other refl)
kept u w status.Memory h other memory = absurd (memory refl)
kept u w status.Done h other memory = h
kept u w status.Refused h other memory = h
kept u w status.Usage h other memory = h
kept u w status.ReadFault h other memory = h
kept u w status.Limit h other memory = h
kept u w status.BadInput h other memory = h

pub counted : (before after : Outside) (r : Status) → r ≢ status.ReadFault → (after.folder_reads ≡ before.folder_reads) × (after.script_reads ≡ before.script_reads) → IsPutFault (written before) (written after) r
    → (SavesNothing r → after.files ≡ before.files) → IsCounted before after r
counted before after r other reads put unsaved = record {
  read_fault = λ e. absurd (other e);
  quiet = λ e. absurd (other e);
  no_read_fault = λ _. reads;
  write_fault = rose (written before) (written after) r put;
  memory = wanted (written before) (written after) r put;
  no_write_fault = kept (written before) (written after) r put;
  unsaved = unsaved;
}

-- records that are answered may save
nothing_saved : (r : Status) → EndsAnswering r → ¬ (SavesNothing r)
nothing_saved status.Done h n = n
nothing_saved status.Refused h n = n
nothing_saved status.WriteFault h n = n
nothing_saved status.Memory h n = n
nothing_saved status.Usage h n = h
nothing_saved status.ReadFault h n = h
nothing_saved status.Limit h n = h
nothing_saved status.BadInput h n = h

pub answered_counted : (before after : Outside) (r : Status) → EndsAnswering r → (after.folder_reads ≡ before.folder_reads) × (after.script_reads ≡ before.script_reads) → IsPutFault (written before) (written after) r
    → IsCounted before after r
answered_counted before after r h reads put = counted before after r (whole_or_early r h).2 reads put (λ n. absurd (nothing_saved r h n))

pub said_counted : (stop : Stop) (line : List ℕ) (before after : Outside) (r : Status) → Says line (status_of stop) before.pieces after.pieces r
    → (after.folder_reads ≡ before.folder_reads) × (after.script_reads ≡ before.script_reads) → after.folder_writes ≡ before.folder_writes → after.folder_wants ≡ before.folder_wants
    → IsSinkFault before.sink_writes after.sink_writes r → after.files ≡ before.files → IsCounted before after r
said_counted stop line before after r h reads writes wants sink files =
    counted before after r (said stop line before.pieces after.pieces r h).2 reads (put_by_line before after r writes wants sink) (λ _. files)

pub memory_counted : (before after : Outside) → (after.folder_reads ≡ before.folder_reads) × (after.script_reads ≡ before.script_reads) → after.folder_writes ≡ before.folder_writes
    → after.folder_wants ≡ before.folder_wants → after.sink_writes ≡ before.sink_writes → IsCounted before after status.Memory
memory_counted before after reads writes wants sink =
    counted before after status.Memory (λ e. cc e) reads (inl (record { folder = writes; wants = wants; sink = sink })) (λ n. absurd n)

fault_of : (before after : Outside) → IsFaultOf before.folder_reads after.folder_reads before.left after.left before.script_reads after.script_reads → IsReadFault before after
fault_of before after (inl h) = inl (h.0, script_left before after h.1)
fault_of before after (inr h) = inr h

pub read_fault_counted : (before after : Outside) → IsFaultOf before.folder_reads after.folder_reads before.left after.left before.script_reads after.script_reads → after.folder_writes ≡ before.folder_writes
    → after.folder_wants ≡ before.folder_wants → after.sink_writes ≡ before.sink_writes → after.pieces ≡ before.pieces → after.files ≡ before.files → IsCounted before after status.ReadFault
read_fault_counted before after h writes wants sink pieces files = record {
  read_fault = λ _. fault_of before after h;
  quiet = λ _. pieces;
  no_read_fault = λ other. absurd (other refl);
  write_fault = λ e. cc e;
  memory = λ e. cc e;
  no_write_fault = λ _ _. record { folder = writes; wants = wants; sink = sink };
  unsaved = λ _. files;
}

-- ---- words that ask for a script
pub job_runs : (rules : List Rule) (job : Job) (asked : Option Asked) (before after : Outside) (r : Status) → Some (Script job) ≡ asked → RunsScript (rule_of rules job.pick) job before after r → RunsAs rules asked before after r
job_runs rules job asked before after r is h = subst (λ (z : Option Asked). RunsAs rules z before after r) is h

-- the rules of the pickers, in their order
abbrev pub rules_in : {X : Type 0} → List X → (X → Rule) → List Rule
rules_in pickers rule = map rule pickers
