-- Answering record by record.
use Rattle.std.proofs.Common.{◌≡◌, ◌<◌, ◌≤◌, ◌+◌, ◌++◌, ◌∷◌, [], ℕ, zero, suc, List, Option, Some, None, IfSome, length, take, get_or, refl, ap, sym, subst, append_assoc, inl, inr, ◌∙◌}
use Rattle.std.specs.Prelude.{Bool, true, false, ◌||◌, Result, Ok, Err, option_map, slice_get, ◌⊎◌}
use Rattle.std.specs.List.{list_any}
use Rattle.std.proofs.lemmas.List.{append-nil, take_more, take_all, map-append}
use Rattle.solver_io.specs.Bytes.{Takes, part_of}
use Rattle.solver_io.specs.Causes.{Rose}
use Rattle.solver_io.specs.Files.{Files, SameBut, SameButTold}
use Rattle.solver_io.specs.declared.ends.PutEnd.{PutEnd}
use Rattle.solver_io.specs.declared.ends.PutEnd.TheVariants as put
use Rattle.sheet_csv.specs.Sheet.{Record}
use Rattle.workbook.specs.State.{State}
use Rattle.commands.specs.Commands.{command_of}
use Rattle.commands.specs.Lines.{answer_text, is_refusal}
use Rattle.commands.specs.declared.answer.Answer.{Answer}
use Rattle.node_pick.specs.Rules.{Rule}
use Rattle.session.specs.States.{SessionState, opened}
use Rattle.opensolver_cli.specs.Counted.{CountedState}
use Rattle.session.specs.Steps.{Step}
use Rattle.opensolver_cli.specs.Answering.{AnswersRecord, AnswersRecords, IsAnswered, IsCutInFolder, IsCutOff, IsPutFault, IsSaved, IsUnprinted, NothingIsWritten}
use Rattle.opensolver_cli.specs.Courses.{AllAnswered, CutShort, EndsBefore, EndsInFolder, EndsInSink, EndsUnprinted, Setting, sheets_of}
use Rattle.opensolver_cli.specs.Headline.{setting_of}
use Rattle.opensolver_cli.specs.Outside.{FolderFailed, FolderWantsMemory, NoneFailed, SinkFailed, Written}
use Rattle.command_line.specs.Words.{Job, Named}
use Rattle.opensolver_cli.specs.Worlds.{Answered, World, files_after, lines_of, none, more, with_saved, word_of}
use Rattle.run_inputs.specs.declared.status.Status.{Status}
use Rattle.run_inputs.specs.declared.status.Status.TheVariants as status

-- a session over these files
abbrev pub over : Files → SessionState → World
over files session = record { session = session; files = files }

-- some records were answered, each answer was printed as one piece and each save was made; and this is the session behind them
pub record AreAnswered (setting : Setting) (records : List Record) (before after : Written) (session : SessionState) (refused : Bool) : Type 0 where
  pub answers : List Answer
  pub reached : Files
  pub answered : Answered setting.rule setting.named setting.start records answers (over reached session)
  pub files_are : after.files ≡ Some reached
  pub printed : Takes before.pieces after.pieces (lines_of (sheets_of setting) answers)
  pub refusals : list_any (is_refusal (sheets_of setting)) answers ≡ refused
  pub sheets : session.book.sheets ≡ sheets_of setting

-- ---- pieces, files and counts
-- an element that stands at a place
element : {A : Type 0} (xs : List A) (i : ℕ) (a : A) → slice_get xs i ≡ Some a → get_or xs i a ≡ a
element [] i a h = cc
element (x ∷ xs) zero a h = cc
element (x ∷ xs) (suc i) a h = element xs i a h

takes_none : (w : Option (List (List ℕ))) → Takes w w []
takes_none None = tt
takes_none (Some xs) = sym (append-nil xs)

takes_same : (v w : Option (List (List ℕ))) → w ≡ v → Takes v w []
takes_same v w same = subst (λ (z : Option (List (List ℕ))). Takes v z []) (sym same) (takes_none v)

takes_both : (u v w : Option (List (List ℕ))) (xs ys : List (List ℕ)) → Takes u v xs → Takes v w ys → Takes u w (xs ++ ys)
takes_both None v w xs ys p q = tt
takes_both (Some a) None w xs ys p q = absurd p
takes_both (Some a) (Some b) None xs ys p q = absurd q
takes_both (Some a) (Some b) (Some c) xs ys p q = q ∙ ap (λ (z : List (List ℕ)). z ++ ys) p ∙ append_assoc a xs ys

-- files that are told, once an answer's are saved
saved_over : (named : Named) (a : Answer) (v w : Written) (held : Files) → v.files ≡ Some held → IsSaved named a v w → w.files ≡ Some (files_after named held a)
saved_over named a v w held is saved = saved ∙ ap (option_map (λ (files : Files). files_after named files a)) is

-- what all names but one hold is told
told : (old : Files) (new : Option Files) (name : List ℕ) → SameButTold (Some old) new name → (held : Files) × (new ≡ Some held) × SameBut old held name
told old None name h = absurd h
told old (Some new) name h = (new, refl, h)

none_then_none : (u v w : Written) → NoneFailed u v → NoneFailed v w → NoneFailed u w
none_then_none u v w a b = record { folder = b.folder ∙ a.folder; wants = b.wants ∙ a.wants; sink = b.sink ∙ a.sink }

none_then_sink : (u v w : Written) → NoneFailed u v → SinkFailed v w → SinkFailed u w
none_then_sink u v w a b = record { rose = subst (λ (n : ℕ). Rose n w.sink_writes) a.sink b.rose; folder = b.folder ∙ a.folder; wants = b.wants ∙ a.wants }

none_then_folder : (u v w : Written) → NoneFailed u v → FolderFailed v w → FolderFailed u w
none_then_folder u v w a b = record { rose = subst (λ (n : ℕ). Rose n w.folder_writes) a.folder b.rose; wants = b.wants ∙ a.wants; sink = b.sink ∙ a.sink }

none_then_wants : (u v w : Written) → NoneFailed u v → FolderWantsMemory v w → FolderWantsMemory u w
none_then_wants u v w a b = record { rose = subst (λ (n : ℕ). Rose n w.folder_wants) a.wants b.rose; folder = b.folder ∙ a.folder; sink = b.sink ∙ a.sink }

-- ---- refusals
or_false : (a : Bool) → (a || false) ≡ a
or_false true = refl
or_false false = refl

or_assoc : (a b c : Bool) → (a || (b || c)) ≡ ((a || b) || c)
or_assoc true b c = refl
or_assoc false b c = refl

any_more : (p : Answer → Bool) (ts : List Answer) (a : Answer) → list_any p (ts ++ a ∷ []) ≡ (list_any p ts || p a)
any_more p [] a = or_false (p a)
any_more p (b ∷ bs) a = ap (λ (z : Bool). p b || z) (any_more p bs a) ∙ or_assoc (p b) (list_any p bs) (p a)

-- whether one of the answers so far is a refusal, after one more
pub refused_before : (a b r : Bool) → a ≡ true → r ≡ a → (a || b) ≡ r
refused_before a b r is e = rw (e, is) refl

pub refused_here : (a b r : Bool) → a ≡ false → r ≡ b → (a || b) ≡ r
refused_here a b r is e = rw (is, e) refl

-- ---- one more record
-- steps, and one more behind them
one_step_more : (rule : Rule) (named : Named) (b m e : World) (rs : List Record) (r : Record) (ts : List Answer) (a : Answer) → Answered rule named b rs ts m → Step rule m.session (command_of r) a e.session
    → e.files ≡ files_after named m.files a → Answered rule named b (rs ++ r ∷ []) (ts ++ a ∷ []) e
one_step_more rule named b m e rs r ts a none last files = more (last, files) none
one_step_more rule named b m e rs r ts a (more first rest) last files = more first (one_step_more rule named _ _ _ _ _ _ _ rest last files)

none_answered : (setting : Setting) (w : Written) → w.files ≡ Some setting.start.files → AreAnswered setting [] w w setting.start.session false
none_answered setting w told = record {
  answers = [];
  reached = setting.start.files;
  answered = none;
  files_are = told;
  printed = takes_none w.pieces;
  refusals = refl;
  sheets = refl;
}

one_answered_more : (setting : Setting) (m e : SessionState) (rs : List Record) (r : Record) (u v w : Written) (before here : Bool) → AreAnswered setting rs u v m before → IsAnswered setting.rule setting.named m r v w e here
    → e.book.sheets ≡ m.book.sheets → AreAnswered setting (rs ++ r ∷ []) u w e (before || here)
one_answered_more setting m e rs r u v w before here are is same =
    let printed = subst (λ (z : List (List ℕ)). Takes v.pieces w.pieces (answer_text z is.answer ∷ [])) are.sheets is.printed in
    let refusal = subst (λ (z : List (List ℕ)). is_refusal z is.answer ≡ here) are.sheets is.refusal in
    let next = files_after setting.named are.reached is.answer in
    record {
      answers = are.answers ++ is.answer ∷ [];
      reached = next;
      answered = one_step_more setting.rule setting.named setting.start (over are.reached m) (over next e) rs r are.answers is.answer are.answered is.step refl;
      files_are = saved_over setting.named is.answer v w are.reached are.files_are is.saved;
      printed =
          subst (λ (z : List (List ℕ)). Takes u.pieces w.pieces z) (sym (map-append (answer_text (sheets_of setting)) are.answers (is.answer ∷ [])))
          (takes_both u.pieces v.pieces w.pieces (lines_of (sheets_of setting) are.answers) (answer_text (sheets_of setting) is.answer ∷ []) are.printed printed);
      refusals = any_more (is_refusal (sheets_of setting)) are.answers is.answer ∙ ap (λ (z : Bool). z || is_refusal (sheets_of setting) is.answer) are.refusals ∙ ap (λ (z : Bool). before || z) refusal;
      sheets = same ∙ are.sheets;
    }

-- the same, of the first records of a list
next_answered : (setting : Setting) (m e : SessionState) (rows : List Record) (i : ℕ) (r : Record) (u v w : Written) (before here : Bool) → i < length rows → slice_get rows i ≡ Some r → AreAnswered setting (take i rows) u v m before
    → IsAnswered setting.rule setting.named m r v w e here → e.book.sheets ≡ m.book.sheets → AreAnswered setting (take (i + 1) rows) u w e (before || here)
next_answered setting m e rows i r u v w before here within there are is same =
    let ends : take i rows ++ r ∷ [] ≡ take (i + 1) rows = sym (take_more rows i r within ∙ ap (λ (z : Record). take i rows ++ z ∷ []) (element rows i r there)) in
    subst (λ (z : List Record). AreAnswered setting z u w e (before || here)) ends (one_answered_more setting m e (take i rows) r u v w before here are is same)

-- ---- a record at which the answers end
cut : (Ends : World → Record → List (List ℕ) → Type 0) (setting : Setting) (m : SessionState) (rows : List Record) (i : ℕ) (r : Record) (u v w : Written) (before : Bool) (part : List (List ℕ)) → slice_get rows i ≡ Some r
    → (are : AreAnswered setting (take i rows) u v m before) → Ends (over are.reached m) r part → Takes v.pieces w.pieces part → CutShort Ends setting rows u.pieces w.pieces
cut Ends setting m rows i r u v w before part there are ends printed = record {
  done = i;
  fields = r;
  there = there;
  answers = are.answers;
  reached = over are.reached m;
  answered = are.answered;
  part = part;
  ends = ends;
  printed = takes_both u.pieces v.pieces w.pieces (lines_of (sheets_of setting) are.answers) part are.printed printed;
}

-- its lines were printed in part
in_sink : (setting : Setting) (m : SessionState) (rs : List Record) (r : Record) (u v w : Written) (before : Bool) (are : AreAnswered setting rs u v m before) (off : IsCutOff setting.rule setting.named m r v w)
    → EndsInSink setting (over are.reached m) r (part_of off.printed.0 (answer_text m.book.sheets off.answer)) w.files
in_sink setting m rs r u v w before are off = record {
  answer = off.answer;
  next = over (files_after setting.named are.reached off.answer) off.new;
  answered = (off.step, refl);
  count = off.printed.0;
  part_is = ap (λ (z : List (List ℕ)). part_of off.printed.0 (answer_text z off.answer)) are.sheets;
  files_are = saved_over setting.named off.answer v w are.reached are.files_are off.saved;
}

-- nothing of its lines was printed
unprinted : (setting : Setting) (m : SessionState) (rs : List Record) (r : Record) (u v w : Written) (before : Bool) (are : AreAnswered setting rs u v m before) (off : IsUnprinted setting.rule setting.named m r v w)
    → EndsUnprinted setting (over are.reached m) r [] w.files
unprinted setting m rs r u v w before are off = record {
  answer = off.answer;
  next = over (files_after setting.named are.reached off.answer) off.new;
  answered = (off.step, refl);
  nothing = refl;
  files_are = saved_over setting.named off.answer v w are.reached are.files_are off.saved;
}

-- the folder refused a file of it
in_folder : (setting : Setting) (m : SessionState) (rs : List Record) (r : Record) (u v w : Written) (before : Bool) (are : AreAnswered setting rs u v m before) (off : IsCutInFolder setting.rule setting.named m r v w)
    → EndsInFolder setting (over are.reached m) r [] w.files
in_folder setting m rs r u v w before are off =
    let at = off.refused in
    let name = word_of setting.named at.file.sheet in
    let others : SameButTold (Some (with_saved setting.named are.reached (take at.done off.saved.items))) w.files name =
    subst (λ (z : Option Files). SameButTold (option_map (λ (files : Files). with_saved setting.named files (take at.done off.saved.items)) z) w.files name) are.files_are at.others
    in
    let is = told (with_saved setting.named are.reached (take at.done off.saved.items)) w.files name others in
    record {
      saved = off.saved;
      next = off.new;
      step = off.step;
      done = at.done;
      file = at.file;
      there = at.there;
      held = is.0;
      files_are = is.1;
      others = is.2;
      nothing = refl;
    }

-- nothing of it is seen
before_it : (setting : Setting) (m : SessionState) (rs : List Record) (u v w : Written) (before : Bool) (are : AreAnswered setting rs u v m before) → NothingIsWritten v w → EndsBefore (over are.reached m) [] w.files
before_it setting m rs u v w before are nothing = record { nothing = refl; files_are = nothing.files ∙ are.files_are }

-- ---- records of a list, by an answer at a place
-- the record that stands at a place was answered
abbrev pub AnsweredAt : Rule → Named → SessionState → List Record → ℕ → Written → Written → SessionState → Result Bool PutEnd → Type 0
AnsweredAt rule named old rows i v w new r = (fields : Record) × (slice_get rows i ≡ Some fields) × AnswersRecord rule named old fields v w new r

same_end : (rule : Rule) (named : Named) (old : SessionState) (rows : List Record) (i : ℕ) (v w : Written) (new : SessionState) (x y : PutEnd) → x ≡ y → AnsweredAt rule named old rows i v w new (Err x)
    → AnsweredAt rule named old rows i v w new (Err y)
same_end rule named old rows i v w new x y is h = subst (λ (z : PutEnd). AnsweredAt rule named old rows i v w new (Err z)) is h

-- a write failed
cut_by_write : (setting : Setting) (m e : SessionState) (rows : List Record) (i : ℕ) (u v w : Written) (before : Bool) → NoneFailed u v → AreAnswered setting (take i rows) u v m before
    → AnsweredAt setting.rule setting.named m rows i v w e (Err put.Failed) → AnswersRecords setting rows u w status.WriteFault
cut_by_write setting m e rows i u v w before kept are (r, there, inl sink) =
    inl (
      cut (λ x fields part. EndsInSink setting x fields part w.files) setting m rows i r u v w before (part_of sink.0.printed.0 (answer_text m.book.sheets sink.0.answer)) there are
          (in_sink setting m (take i rows) r u v w before are sink.0) sink.0.printed.2,
      none_then_sink u v w kept sink.1,
    )
cut_by_write setting m e rows i u v w before kept are (r, there, inr folder) =
    inr (
      cut (λ x fields part. EndsInFolder setting x fields part w.files) setting m rows i r u v w before [] there are
          (in_folder setting m (take i rows) r u v w before are folder.0) (takes_same v.pieces w.pieces folder.0.printed),
      none_then_folder u v w kept folder.1,
    )

-- memory ran out
cut_by_memory : (setting : Setting) (m e : SessionState) (rows : List Record) (i : ℕ) (u v w : Written) (before : Bool) → NoneFailed u v → AreAnswered setting (take i rows) u v m before
    → AnsweredAt setting.rule setting.named m rows i v w e (Err put.Memory) → AnswersRecords setting rows u w status.Memory
cut_by_memory setting m e rows i u v w before kept are (r, there, inl (off, wanted)) =
    let short =
    cut (λ x fields part. EndsInFolder setting x fields part w.files) setting m rows i r u v w before [] there are (in_folder setting m (take i rows) r u v w before are off) (takes_same v.pieces w.pieces off.printed)
    in
    inr (inl (short, none_then_wants u v w kept wanted))
cut_by_memory setting m e rows i u v w before kept are (r, there, inr (inl off, quiet)) =
    let short =
    cut (λ x fields part. EndsUnprinted setting x fields part w.files ⊎ EndsBefore x part w.files) setting m rows i r u v w before [] there are (inl (unprinted setting m (take i rows) r u v w before are off))
    (takes_same v.pieces w.pieces off.printed)
    in
    inr (inr (short, none_then_none u v w kept quiet))
cut_by_memory setting m e rows i u v w before kept are (r, there, inr (inr nothing, quiet)) =
    let short =
    cut (λ x fields part. EndsUnprinted setting x fields part w.files ⊎ EndsBefore x part w.files) setting m rows i r u v w before [] there are (inr (before_it setting m (take i rows) u v w before are nothing)) (takes_same v.pieces w.pieces nothing.pieces)
    in
    inr (inr (short, none_then_none u v w kept quiet))

-- all records were answered
all_answered : (setting : Setting) (m : SessionState) (rows : List Record) (i : ℕ) (u v : Written) (refused : Bool) → length rows ≤ i → AreAnswered setting (take i rows) u v m refused → AllAnswered setting rows u v refused
all_answered setting m rows i u v refused long are = record {
  answers = are.answers;
  last = over are.reached m;
  answered = subst (λ (z : List Record). Answered setting.rule setting.named setting.start z are.answers (over are.reached m)) (take_all i rows long) are.answered;
  printed = are.printed;
  files_are = are.files_are;
  refusals = are.refusals;
}

-- a record is answered by a picker of one rule, which is the other
answered_by : (here rule : Rule) (named : Named) (old new : SessionState) (rows : List Record) (i : ℕ) (v w : Written) (r : Result Bool PutEnd) → here ≡ rule → AnsweredAt here named old rows i v w new r
    → AnsweredAt rule named old rows i v w new r
answered_by here rule named old new rows i v w r same h = subst (λ (z : Rule). AnsweredAt z named old rows i v w new r) same h

-- the first of two rules that are one
abbrev pub this_rule : {here rule : Rule} → here ≡ rule → Rule
this_rule {here = here} same = here

-- ---- the same over a session, where the folder tells its files
-- the records begin in this session, over the files as they are
abbrev pub begun : Rule → Named → SessionState → Files → Setting
begun rule named begins files = record { named = named; rule = rule; start = over files begins }

abbrev pub AreAnsweredTold : Rule → Named → SessionState → Option Files → List Record → Written → Written → SessionState → Bool → Type 0
AreAnsweredTold rule named begins content records u v m refused = IfSome content (λ files. AreAnswered (begun rule named begins files) records u v m refused)

-- no record yet
pub first_records : (rule : Rule) (named : Named) (begins : SessionState) (content : Option Files) (w : Written) → w.files ≡ content → AreAnsweredTold rule named begins content [] w w begins false
first_records rule named begins None w is = tt
first_records rule named begins (Some files) w is = none_answered (begun rule named begins files) w is

-- one more record was answered
pub went_on : (here rule : Rule) (named : Named) (begins : SessionState) (content : Option Files) (m e : SessionState) (rows : List Record) (i : ℕ) (u v w : Written) (before refusal : Bool) → here ≡ rule → i < length rows
    → AreAnsweredTold rule named begins content (take i rows) u v m before → AnsweredAt here named m rows i v w e (Ok refusal) → e.book.sheets ≡ m.book.sheets → AreAnsweredTold rule named begins content (take (i + 1) rows) u w e (before || refusal)
went_on here rule named begins None m e rows i u v w before refusal same within are h sheets = tt
went_on here rule named begins (Some files) m e rows i u v w before refusal same within are h sheets =
    let is = answered_by here rule named m e rows i v w (Ok refusal) same h in
    next_answered (begun rule named begins files) m e rows i is.0 u v w before refusal within is.1 are is.2.0 sheets

-- no write of it failed
pub none_failed : (here : Rule) (named : Named) (m e : SessionState) (rows : List Record) (i : ℕ) (u v w : Written) (refusal : Bool) → NoneFailed u v → AnsweredAt here named m rows i v w e (Ok refusal) → NoneFailed u w
none_failed here named m e rows i u v w refusal kept h = none_then_none u v w kept h.2.1

-- a write of it failed
pub write_failed : (here rule : Rule) (named : Named) (begins : SessionState) (content : Option Files) (m e : SessionState) (rows : List Record) (i : ℕ) (u v w : Written) (before : Bool) (x : PutEnd) → here ≡ rule → x ≡ put.Failed → NoneFailed u v
    → AreAnsweredTold rule named begins content (take i rows) u v m before → AnsweredAt here named m rows i v w e (Err x) → IfSome content (λ files. AnswersRecords (begun rule named begins files) rows u w status.WriteFault)
write_failed here rule named begins None m e rows i u v w before x same failed kept are h = tt
write_failed here rule named begins (Some files) m e rows i u v w before x same failed kept are h =
    cut_by_write (begun rule named begins files) m e rows i u v w before kept are
    (same_end rule named m rows i v w e x put.Failed failed (answered_by here rule named m e rows i v w (Err x) same h))

-- memory ran out at it
pub memory_failed : (here rule : Rule) (named : Named) (begins : SessionState) (content : Option Files) (m e : SessionState) (rows : List Record) (i : ℕ) (u v w : Written) (before : Bool) (x : PutEnd) → here ≡ rule → x ≡ put.Memory → NoneFailed u v
    → AreAnsweredTold rule named begins content (take i rows) u v m before → AnsweredAt here named m rows i v w e (Err x) → IfSome content (λ files. AnswersRecords (begun rule named begins files) rows u w status.Memory)
memory_failed here rule named begins None m e rows i u v w before x same failed kept are h = tt
memory_failed here rule named begins (Some files) m e rows i u v w before x same failed kept are h =
    cut_by_memory (begun rule named begins files) m e rows i u v w before kept are
    (same_end rule named m rows i v w e x put.Memory failed (answered_by here rule named m e rows i v w (Err x) same h))

-- what the counts say then
memory_wanted : (here : Rule) (named : Named) (m e : SessionState) (rows : List Record) (i : ℕ) (u v w : Written) → NoneFailed u v → AnsweredAt here named m rows i v w e (Err put.Memory) → IsPutFault u w status.Memory
memory_wanted here named m e rows i u v w kept (r, there, inl (off, wanted)) = inr (none_then_wants u v w kept wanted)
memory_wanted here named m e rows i u v w kept (r, there, inr (off, quiet)) = inl (none_then_none u v w kept quiet)

pub memory_counts : (here : Rule) (named : Named) (m e : SessionState) (rows : List Record) (i : ℕ) (u v w : Written) (x : PutEnd) → x ≡ put.Memory → NoneFailed u v → AnsweredAt here named m rows i v w e (Err x)
    → IsPutFault u w status.Memory
memory_counts here named m e rows i u v w x failed kept h = memory_wanted here named m e rows i u v w kept (same_end here named m rows i v w e x put.Memory failed h)

-- none is left
pub all_were_answered : (rule : Rule) (named : Named) (begins : SessionState) (content : Option Files) (m : SessionState) (rows : List Record) (i : ℕ) (u v : Written) (refused all : Bool) → refused ≡ all → length rows ≤ i
    → AreAnsweredTold rule named begins content (take i rows) u v m refused → IfSome content (λ files. AllAnswered (begun rule named begins files) rows u v all)
all_were_answered rule named begins None m rows i u v refused all is long are = tt
all_were_answered rule named begins (Some files) m rows i u v refused all is long are =
    subst (λ (b : Bool). AllAnswered (begun rule named begins files) rows u v b) is (all_answered (begun rule named begins files) m rows i u v refused long are)

-- ---- the same over a workbook that was opened
pub over_opened : (rule : Rule) (job : Job) (book : State) (content : Option Files) (s : CountedState) (rows : List Record) (u v : Written) (ends : Status) → s.state ≡ opened book job.budget
    → IfSome content (λ files. AnswersRecords (begun rule job.named s.state files) rows u v ends) → IfSome content (λ files. AnswersRecords (setting_of rule job book files) rows u v ends)
over_opened rule job book content s rows u v ends opens h =
    subst (λ (z : SessionState). IfSome content (λ files. AnswersRecords (begun rule job.named z files) rows u v ends)) opens h
