-- How the answering of records ends.
use Rattle.std.specs.Prelude.{◌≡◌, ◌⊎◌, ◌∷◌, ℕ, Bool, List, [], Option, Some, Vec, option_map, slice_get, take, ⊤, false, true}
use Rattle.std.specs.Global.{Global}
use Rattle.std.specs.declared.result.Result.{Result}
use Rattle.std.specs.declared.result.Result.TheVariants.{Ok, Err}
use Rattle.solver_io.specs.Bytes.{Takes, TakesSome}
use Rattle.solver_io.specs.Causes.{Rose}
use Rattle.solver_io.specs.Files.{Files, SameButTold}
use Rattle.solver_io.specs.declared.ends.PutEnd.{PutEnd}
use Rattle.solver_io.specs.declared.ends.PutEnd.TheVariants as put
use Rattle.sheet_csv.specs.Sheet.{Record}
use Rattle.commands.specs.Commands.{Solve, command_of}
use Rattle.commands.specs.Lines.{answer_text, is_refusal}
use Rattle.commands.specs.Saved.{SavedFile}
use Rattle.commands.specs.declared.answer.Answer.{Answer}
use Rattle.commands.specs.declared.answer.Answer.TheVariants as answer
use Rattle.node_pick.specs.Rules.{Rule}
use Rattle.command_line.specs.Words.{default_budget}
use Rattle.made_up_books.specs.MadeUp.{made_up, sheet_name}
use Rattle.session.specs.States.{SessionState, opened}
use Rattle.session.specs.Steps.{Step}
use Rattle.opensolver_cli.specs.Courses.{AllAnswered, IsCutByMemory, IsCutByWrite, Setting}
use Rattle.opensolver_cli.specs.MadeUp.{made_up_line, status_by}
use Rattle.opensolver_cli.specs.Outside.{FolderFailed, FolderWantsMemory, NoneFailed, SinkFailed, Written}
use Rattle.command_line.specs.Words.{Named}
use Rattle.opensolver_cli.specs.Worlds.{files_after, with_saved, word_of}
use Rattle.run_inputs.specs.declared.status.Status.{Status}
use Rattle.run_inputs.specs.declared.status.Status.TheVariants as status

-- ---- files
-- the files are written, where the folder tells them
abbrev pub IsSaved : Named → Answer → Written → Written → Type 0
IsSaved named a before after = after.files ≡ option_map (λ (files : Files). files_after named files a) before.files

-- the folder refused the file at a place; those before it are written, and what is held under its name isn't told
pub record IsRefusedAt (named : Named) (saved : List SavedFile) (before after : Option Files) : Type 0 where
  pub done : ℕ
  pub file : SavedFile
  pub there : slice_get saved done ≡ Some file
  pub others : SameButTold (option_map (λ (files : Files). with_saved named files (take done saved)) before) after (word_of named file.sheet)

-- what the writing of files leaves in the folder
abbrev pub SavesFiles : Named → List SavedFile → Option Files → Option Files → Result (Unit {0}) PutEnd → Type 0
SavesFiles named saved before after (Ok _) = after ≡ option_map (λ (files : Files). with_saved named files saved) before
SavesFiles named saved before after (Err _) = IsRefusedAt named saved before after

-- the same of the files that an answer names, if it names some
abbrev pub SavesAnswer : Named → Answer → Option Files → Option Files → Result (Unit {0}) PutEnd → Type 0
SavesAnswer named a before after (Ok _) = after ≡ option_map (λ (files : Files). files_after named files a) before
SavesAnswer named (answer.ToSave saved) before after (Err _) = IsRefusedAt named saved.items before after
SavesAnswer named _ before after (Err _) = ⊥

-- ---- one record
-- the record was answered, by a picker of this rule, what it saves is saved, and its lines are printed as one piece; and whether the
-- answer is a refusal
pub record IsAnswered (rule : Rule) (named : Named) (old : SessionState) (fields : Record) (before after : Written) (new : SessionState) (refused : Bool) : Type 0 where
  pub answer : Answer
  pub step : Step rule old (command_of fields) answer new
  pub saved : IsSaved named answer before after
  pub printed : Takes before.pieces after.pieces (answer_text old.book.sheets answer ∷ [])
  pub refusal : is_refusal old.book.sheets answer ≡ refused

-- the record was answered, what it saves is saved, and a part of its lines printed or nothing
pub record IsCutOff (rule : Rule) (named : Named) (old : SessionState) (fields : Record) (before after : Written) : Type 0 where
  pub answer : Answer
  pub new : SessionState
  pub step : Step rule old (command_of fields) answer new
  pub saved : IsSaved named answer before after
  pub printed : TakesSome before.pieces after.pieces (answer_text old.book.sheets answer)

-- the record was answered, what it saves is saved, and nothing printed
pub record IsUnprinted (rule : Rule) (named : Named) (old : SessionState) (fields : Record) (before after : Written) : Type 0 where
  pub answer : Answer
  pub new : SessionState
  pub step : Step rule old (command_of fields) answer new
  pub saved : IsSaved named answer before after
  pub printed : after.pieces ≡ before.pieces

-- the folder refused one of the files that the record saves, and nothing is printed
pub record IsCutInFolder (rule : Rule) (named : Named) (old : SessionState) (fields : Record) (before after : Written) : Type 0 where
  pub saved : Vec SavedFile Global
  pub new : SessionState
  pub step : Step rule old (command_of fields) (answer.ToSave saved) new
  pub refused : IsRefusedAt named saved.items before.files after.files
  pub printed : after.pieces ≡ before.pieces

-- nothing is printed and nothing saved
pub record NothingIsWritten (before after : Written) : Type 0 where
  pub files : after.files ≡ before.files
  pub pieces : after.pieces ≡ before.pieces

-- the record's answer was printed; or a write failed; or a write of the folder found no memory; or memory ran out before the files were
-- written, or after all of them were
abbrev pub AnswersRecord : Rule → Named → SessionState → Record → Written → Written → SessionState → Result Bool PutEnd → Type 0
AnswersRecord rule named old fields before after new (Ok refused) = IsAnswered rule named old fields before after new refused × NoneFailed before after
AnswersRecord rule named old fields before after new (Err put.Failed) =
    (IsCutOff rule named old fields before after × SinkFailed before after) ⊎ (IsCutInFolder rule named old fields before after × FolderFailed before after)
AnswersRecord rule named old fields before after new (Err put.Memory) =
    (IsCutInFolder rule named old fields before after × FolderWantsMemory before after)
    ⊎ ((IsUnprinted rule named old fields before after ⊎ NothingIsWritten before after) × NoneFailed before after)

-- ---- all records
-- all records were answered, or a write failed or memory ran out meanwhile
abbrev pub AnswersRecords : Setting → List Record → Written → Written → Status → Type 0
AnswersRecords setting records before after status.Done = AllAnswered setting records before after false
AnswersRecords setting records before after status.Refused = AllAnswered setting records before after true
AnswersRecords setting records before after status.WriteFault = IsCutByWrite setting records before after
AnswersRecords setting records before after status.Memory = (NothingIsWritten before after × NoneFailed before after) ⊎ IsCutByMemory setting records before after
AnswersRecords setting records before after _ = ⊥

-- these are the ends of that
abbrev pub EndsAnswering : Status → Type 0
EndsAnswering status.Done = ⊤
EndsAnswering status.Refused = ⊤
EndsAnswering status.WriteFault = ⊤
EndsAnswering status.Memory = ⊤
EndsAnswering _ = ⊥

-- a fault of a write is the status where a count of them rose, want of memory where that of the folder did or none, and else all are as
-- before
abbrev pub IsPutFault : Written → Written → Status → Type 0
IsPutFault before after status.WriteFault = SinkFailed before after ⊎ FolderFailed before after
IsPutFault before after status.Memory = NoneFailed before after ⊎ FolderWantsMemory before after
IsPutFault before after _ = NoneFailed before after

-- ---- one line
-- a fault of the sink is the status where its count rose, and else the count is as before
abbrev pub IsSinkFault : ℕ → ℕ → Status → Type 0
IsSinkFault before now status.WriteFault = Rose before now
IsSinkFault before now _ = now ≡ before

-- a status that comes with one line
abbrev pub IsSaid : Status → Type 0
IsSaid status.Done = ⊤
IsSaid status.Refused = ⊤
IsSaid status.Usage = ⊤
IsSaid status.Limit = ⊤
IsSaid status.BadInput = ⊤
IsSaid _ = ⊥

-- the line was printed and the status is this one; or a part of it was, and its write failed; or nothing was, and memory ran out
abbrev pub Says : List ℕ → Status → Option (List (List ℕ)) → Option (List (List ℕ)) → Status → Type 0
Says line said before after status.Done = (said ≡ status.Done) × Takes before after (line ∷ [])
Says line said before after status.Refused = (said ≡ status.Refused) × Takes before after (line ∷ [])
Says line said before after status.Usage = (said ≡ status.Usage) × Takes before after (line ∷ [])
Says line said before after status.Limit = (said ≡ status.Limit) × Takes before after (line ∷ [])
Says line said before after status.BadInput = (said ≡ status.BadInput) × Takes before after (line ∷ [])
Says line said before after status.WriteFault = TakesSome before after line
Says line said before after status.Memory = after ≡ before
Says line said before after _ = ⊥

-- ---- a workbook that is made up
-- its sheet was solved, this is the line of the answer, and this says whether that is a refusal
pub record AnswersSize (rule : Rule) (size : ℕ) (line : List ℕ) (refused : Bool) : Type 0 where
  pub answer : Answer
  pub next : SessionState
  pub step : Step rule (opened (made_up size) default_budget) (Solve sheet_name) answer next
  pub line_is : line ≡ made_up_line size answer
  pub refusal : refused ≡ is_refusal (sheet_name ∷ []) answer

-- its sheet was solved, and the line of the answer printed, or a part of it or nothing; or memory ran out before
abbrev pub SolvesSize : Rule → ℕ → Option (List (List ℕ)) → Option (List (List ℕ)) → Status → Type 0
SolvesSize rule size before after ends =
    ((answer : Answer) × (next : SessionState) × Step rule (opened (made_up size) default_budget) (Solve sheet_name) answer next
    × Says (made_up_line size answer) (status_by (is_refusal (sheet_name ∷ []) answer)) before after ends)
    ⊎ ((ends ≡ status.Memory) × (after ≡ before))
