-- A session and the files of the folder, and what the records of a script do to both.
use Rattle.std.specs.Prelude.{◌≡◌, ℕ, List, [], ◌∷◌, map, Option, Some, None, slice_get, unwrap_or}
use Rattle.std.specs.FinMap.{insert}
use Rattle.solver_io.specs.Files.{Files}
use Rattle.sheet_csv.specs.Sheet.{Record}
use Rattle.commands.specs.declared.answer.Answer.{Answer}
use Rattle.commands.specs.declared.answer.Answer.TheVariants as answer
use Rattle.commands.specs.Commands.{command_of}
use Rattle.commands.specs.Lines.{answer_text}
use Rattle.commands.specs.Saved.{SavedFile}
use Rattle.node_pick.specs.Rules.{Rule}
use Rattle.session.specs.States.{SessionState}
use Rattle.session.specs.Steps.{Step}
use Rattle.command_line.specs.Words.{Named}

pub record World : Type 0 where
  pub session : SessionState
  pub files : Files

-- ---- saving
-- the word of the file of a sheet, or of the names
abbrev pub word_of : Named → Option ℕ → List ℕ
word_of named None = named.names
word_of named (Some sheet) = unwrap_or (slice_get named.sheets sheet) []

-- the files with these put in, in order
abbrev pub with_saved : Named → Files → List SavedFile → Files
with_saved named files [] = files
with_saved named files (f ∷ more) = with_saved named (insert files (word_of named f.sheet) f.bytes) more

-- the files once an answer was given
abbrev pub files_after : Named → Files → Answer → Files
files_after named files (answer.ToSave saved) = with_saved named files saved.items
files_after named files a = files

-- ---- records
-- one record: the step that its command makes, where searches open nodes by this rule, and the files that it saves
abbrev pub Answers : Rule → Named → World → Record → Answer → World → Type 0
Answers rule named before fields a after = Step rule before.session (command_of fields) a after.session × (after.files ≡ files_after named before.files a)

-- some records in order, each over what those before it have left
pub data Answered (rule : Rule) (named : Named) : World → List Record → List Answer → World → Type 0 where
  none : {w : World} → Answered rule named w [] [] w
  more : {w m e : World} {fields : Record} {records : List Record} {a : Answer} {rest : List Answer}
      → Answers rule named w fields a m → Answered rule named m records rest e → Answered rule named w (fields ∷ records) (a ∷ rest) e

-- the lines of answers, one for each
abbrev pub lines_of : List (List ℕ) → List Answer → List (List ℕ)
lines_of sheets answers = map (answer_text sheets) answers
