-- How the answering of records goes: to its end, or to an early one.
use Rattle.std.specs.Prelude.{◌≡◌, ◌⊎◌, ◌++◌, ℕ, Bool, List, [], take, Option, Some, Vec, slice_get}
use Rattle.std.specs.Global.{Global}
use Rattle.std.specs.List.{list_any}
use Rattle.solver_io.specs.Bytes.{Takes, part_of}
use Rattle.solver_io.specs.Files.{Files, SameBut}
use Rattle.sheet_csv.specs.Sheet.{Record}
use Rattle.commands.specs.declared.answer.Answer.{Answer}
use Rattle.commands.specs.declared.answer.Answer.TheVariants as answer
use Rattle.commands.specs.Commands.{command_of}
use Rattle.commands.specs.Lines.{answer_text, is_refusal}
use Rattle.commands.specs.Saved.{SavedFile}
use Rattle.session.specs.States.{SessionState}
use Rattle.session.specs.Steps.{Step}
use Rattle.opensolver_cli.specs.Outside.{FolderFailed, FolderWantsMemory, NoneFailed, SinkFailed, Written}
use Rattle.node_pick.specs.Rules.{Rule}
use Rattle.command_line.specs.Words.{Named}
use Rattle.opensolver_cli.specs.Worlds.{World, Answers, Answered, lines_of, with_saved, word_of}

-- over which files the records are answered, by a picker of which rule, and in which world they begin
pub record Setting : Type 0 where
  pub named : Named
  pub rule : Rule
  pub start : World

-- the names of the sheets, which stay as they are
abbrev pub sheets_of : Setting → List (List ℕ)
sheets_of setting = setting.start.session.book.sheets

-- ---- all records
-- all records are answered; the lines of each answer are one piece, and nothing else is printed; the folder's files are what the
-- records have left, each save in them; and one answer is a refusal or none is
pub record AllAnswered (setting : Setting) (records : List Record) (before after : Written) (refused : Bool) : Type 0 where
  pub answers : List Answer
  pub last : World
  pub answered : Answered setting.rule setting.named setting.start records answers last
  pub printed : Takes before.pieces after.pieces (lines_of (sheets_of setting) answers)
  pub files_are : after.files ≡ Some last.files
  pub refusals : list_any (is_refusal (sheets_of setting)) answers ≡ refused

-- ---- an early end, at a record
-- the sink took only a part of the record's lines, or nothing of them; what the record saves is saved
pub record EndsInSink (setting : Setting) (w : World) (fields : Record) (part : List (List ℕ)) (files : Option Files) : Type 0 where
  pub answer : Answer
  pub next : World
  pub answered : Answers setting.rule setting.named w fields answer next
  pub count : ℕ
  pub part_is : part ≡ part_of count (answer_text (sheets_of setting) answer)
  pub files_are : files ≡ Some next.files

-- what the record saves is saved, and nothing of its lines is printed
pub record EndsUnprinted (setting : Setting) (w : World) (fields : Record) (part : List (List ℕ)) (files : Option Files) : Type 0 where
  pub answer : Answer
  pub next : World
  pub answered : Answers setting.rule setting.named w fields answer next
  pub nothing : part ≡ []
  pub files_are : files ≡ Some next.files

-- the folder refused a file that the record saves: those before it are saved, what is held under its name isn't known, all others are
-- as they were, and nothing of the record's lines is printed
pub record EndsInFolder (setting : Setting) (w : World) (fields : Record) (part : List (List ℕ)) (files : Option Files) : Type 0 where
  pub saved : Vec SavedFile Global
  pub next : SessionState
  pub step : Step setting.rule w.session (command_of fields) (answer.ToSave saved) next
  pub done : ℕ
  pub file : SavedFile
  pub there : slice_get saved.items done ≡ Some file
  pub held : Files
  pub files_are : files ≡ Some held
  pub others : SameBut (with_saved setting.named w.files (take done saved.items)) held (word_of setting.named file.sheet)
  pub nothing : part ≡ []

-- nothing of the record is seen
pub record EndsBefore (w : World) (part : List (List ℕ)) (files : Option Files) : Type 0 where
  pub nothing : part ≡ []
  pub files_are : files ≡ Some w.files

-- the records before one were answered, the lines of each answer were one piece, and each save was made; and then the run ended in
-- this way
pub record CutShort (Ends : World → Record → List (List ℕ) → Type 0) (setting : Setting) (records : List Record) (before after : Option (List (List ℕ))) : Type 0 where
  pub done : ℕ
  pub fields : Record
  pub there : slice_get records done ≡ Some fields
  pub answers : List Answer
  pub reached : World
  pub answered : Answered setting.rule setting.named setting.start (take done records) answers reached
  pub part : List (List ℕ)
  pub ends : Ends reached fields part
  pub printed : Takes before after (lines_of (sheets_of setting) answers ++ part)

-- a write of the sink failed at a record, or one of the folder
abbrev pub IsCutByWrite : Setting → List Record → Written → Written → Type 0
IsCutByWrite setting records before after =
    (CutShort (λ w fields part. EndsInSink setting w fields part after.files) setting records before.pieces after.pieces × SinkFailed before after)
    ⊎ (CutShort (λ w fields part. EndsInFolder setting w fields part after.files) setting records before.pieces after.pieces × FolderFailed before after)

-- a write of the folder found no memory at a record; or none did, and what the record saves is saved or nothing of it is seen
abbrev pub IsCutByMemory : Setting → List Record → Written → Written → Type 0
IsCutByMemory setting records before after =
    (CutShort (λ w fields part. EndsInFolder setting w fields part after.files) setting records before.pieces after.pieces × FolderWantsMemory before after)
    ⊎ (CutShort (λ w fields part. EndsUnprinted setting w fields part after.files ⊎ EndsBefore w part after.files) setting records before.pieces after.pieces × NoneFailed before after)
