-- Answering one record.
use Rattle.std.proofs.Common.{◌≡◌, ℕ, ◌∷◌, [], List, Option, inl, inr, refl, subst, sym}
use Rattle.std.specs.Prelude.{Bool, Err, Ok, Result, Vec}
use Rattle.std.specs.Global.{Global}
use Rattle.solver_io.specs.Bytes.{PutCause, PutWant, SinkTakes, Takes, TakesSome}
use Rattle.solver_io.specs.Files.{Files}
use Rattle.solver_io.specs.declared.ends.PutEnd.{PutEnd}
use Rattle.solver_io.specs.declared.ends.PutEnd.TheVariants as put
use Rattle.sheet_csv.specs.Sheet.{Record}
use Rattle.commands.specs.Commands.{Spoken, command_of}
use Rattle.commands.specs.Lines.{answer_text, is_refusal}
use Rattle.commands.specs.Saved.{SavedFile}
use Rattle.commands.specs.declared.answer.Answer.{Answer}
use Rattle.commands.specs.declared.answer.Answer.TheVariants as answer
use Rattle.node_pick.specs.Rules.{Rule}
use Rattle.session.specs.States.{SessionState}
use Rattle.session.specs.Steps.{Applies, Step, once_written}
use Rattle.opensolver_cli.specs.Answering.{AnswersRecord, IsAnswered, IsCutInFolder, IsCutOff, IsRefusedAt, IsSaved, IsUnprinted, SavesAnswer}
use Rattle.opensolver_cli.specs.Outside.{Written, put_in}
use Rattle.command_line.specs.Words.{Named}

-- what a command did is the step of its record, once the files are written
stepped : (rule : Rule) (old applied new : SessionState) (fields : Record) (s : Spoken) (a : Answer) → s ≡ command_of fields → Applies rule old s a applied → new ≡ once_written a applied → Step rule old (command_of fields) a new
stepped rule old applied new fields s a is does written = (applied, subst (λ (z : Spoken). Applies rule old z a applied) is does, written)

-- ---- the folder refused a file
-- then the answer names files
refused_files : (named : Named) (a : Answer) (before after : Option Files) (e : PutEnd) → SavesAnswer named a before after (Err e)
    → (saved : Vec SavedFile Global) × (a ≡ answer.ToSave saved) × IsRefusedAt named saved.items before after
refused_files named (answer.ToSave saved) before after e h = (saved, refl, h)
refused_files named _ before after e h = absurd h

cut_in_folder : (rule : Rule) (named : Named) (old applied : SessionState) (fields : Record) (s : Spoken) (a : Answer) (v w : Written) (e : PutEnd) → s ≡ command_of fields → Applies rule old s a applied
    → SavesAnswer named a v.files w.files (Err e) → w.pieces ≡ v.pieces → IsCutInFolder rule named old fields v w
cut_in_folder rule named old applied fields s a v w e is does h printed =
    let r = refused_files named a v.files w.files e h in
    record {
      saved = r.0;
      new = once_written (answer.ToSave r.0) applied;
      step = subst (λ (z : Answer). Step rule old (command_of fields) z (once_written z applied)) r.1 (stepped rule old applied (once_written a applied) fields s a is does refl);
      refused = r.2;
      printed = printed;
    }

pub not_saved : (rule : Rule) (named : Named) (old applied new : SessionState) (fields : Record) (s : Spoken) (a : Answer) (before after : Option Files) (writes wants writes_now wants_now : ℕ) (pieces : Option (List (List ℕ))) (faults : ℕ) (e : PutEnd)
    → s ≡ command_of fields → Applies rule old s a applied → SavesAnswer named a before after (Err e) → PutCause {T = Unit {0}} writes writes_now (Err e) → PutWant {T = Unit {0}} wants wants_now (Err e)
    → AnswersRecord rule named old fields (put_in before writes wants pieces faults) (put_in after writes_now wants_now pieces faults) new (Err e)
not_saved rule named old applied new fields s a before after writes wants writes_now wants_now pieces faults put.Failed is does h cause want =
    inr (
      cut_in_folder rule named old applied fields s a (put_in before writes wants pieces faults) (put_in after writes_now wants_now pieces faults) put.Failed is does h refl,
      record { rose = cause; wants = want; sink = refl },
    )
not_saved rule named old applied new fields s a before after writes wants writes_now wants_now pieces faults put.Memory is does h cause want =
    inl (
      cut_in_folder rule named old applied fields s a (put_in before writes wants pieces faults) (put_in after writes_now wants_now pieces faults) put.Memory is does h refl,
      record { rose = want; folder = cause; sink = refl },
    )

-- ---- a part of the line was printed
cut_off : (rule : Rule) (named : Named) (old applied new : SessionState) (fields : Record) (s : Spoken) (a : Answer) (text : List ℕ) (v w : Written) → s ≡ command_of fields → Applies rule old s a applied → new ≡ once_written a applied
    → IsSaved named a v w → text ≡ answer_text old.book.sheets a → TakesSome v.pieces w.pieces text → IsCutOff rule named old fields v w
cut_off rule named old applied new fields s a text v w is does written saved text_is printed = record {
  answer = a;
  new = new;
  step = stepped rule old applied new fields s a is does written;
  saved = saved;
  printed = subst (λ (z : List ℕ). TakesSome v.pieces w.pieces z) text_is printed;
}

-- whatever the error of its write
pub not_taken : (rule : Rule) (named : Named) (old applied new : SessionState) (fields : Record) (s : Spoken) (a : Answer) (text : List ℕ) (v w : Written) (e : PutEnd) → s ≡ command_of fields → Applies rule old s a applied
    → new ≡ once_written a applied → IsSaved named a v w → text ≡ answer_text old.book.sheets a → SinkTakes v.pieces w.pieces text (Err e) → w.folder_writes ≡ v.folder_writes → w.folder_wants ≡ v.folder_wants
    → PutCause {T = Unit {0}} v.sink_writes w.sink_writes (Err e) → AnswersRecord rule named old fields v w new (Err e)
not_taken rule named old applied new fields s a text v w put.Failed is does written saved text_is taken kept wants cause =
    inl (cut_off rule named old applied new fields s a text v w is does written saved text_is taken, record { rose = cause; folder = kept; wants = wants })
not_taken rule named old applied new fields s a text v w put.Memory is does written saved text_is taken kept wants cause =
    let unprinted : IsUnprinted rule named old fields v w = record {
      answer = a;
      new = new;
      step = stepped rule old applied new fields s a is does written;
      saved = saved;
      printed = taken;
    } in
    inr (inl unprinted, record { folder = kept; wants = wants; sink = cause })

-- ---- the line was printed
pub said_whole : (rule : Rule) (named : Named) (old applied new : SessionState) (fields : Record) (s : Spoken) (a : Answer) (text : List ℕ) (v w : Written) (refused : Bool) → s ≡ command_of fields → Applies rule old s a applied
    → new ≡ once_written a applied → IsSaved named a v w → text ≡ answer_text old.book.sheets a → Takes v.pieces w.pieces (text ∷ []) → refused ≡ is_refusal old.book.sheets a
    → w.folder_writes ≡ v.folder_writes → w.folder_wants ≡ v.folder_wants → w.sink_writes ≡ v.sink_writes → AnswersRecord rule named old fields v w new (Ok refused)
said_whole rule named old applied new fields s a text v w refused is does written saved text_is printed refusal folder wants sink =
    let answered : IsAnswered rule named old fields v w new refused = record {
      answer = a;
      step = stepped rule old applied new fields s a is does written;
      saved = saved;
      printed = subst (λ (z : List ℕ). Takes v.pieces w.pieces (z ∷ [])) text_is printed;
      refusal = sym refusal;
    } in
    (answered, record { folder = folder; wants = wants; sink = sink })

-- ---- the answer was told
-- whatever record it is that spells the command
pub told_by : (rule : Rule) (named : Named) (old applied new : SessionState) (s : Spoken) (a : Answer) (v w : Written) (r : Result Bool PutEnd) → Applies rule old s a applied → applied.book.sheets ≡ old.book.sheets
    → ((by : Rule) (before : SessionState) (fields : Record) → Applies by before (command_of fields) a applied → applied.book.sheets ≡ before.book.sheets → AnswersRecord by named before fields v w new r) → (fields : Record) → s ≡ command_of fields
    → AnswersRecord rule named old fields v w new r
told_by rule named old applied new s a v w r does same told fields is = told rule old fields (subst (λ (z : Spoken). Applies rule old z a applied) is does) same
