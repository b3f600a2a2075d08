-- How a run over a workbook that is made up ends, and one that has no memory for its words.
use Rattle.std.proofs.Common.{◌≡◌, ◌≢◌, ◌∷◌, [], ℕ, List, Option, Some, None, ap, inl, inr, refl, subst, sym, ◌∙◌}
use Rattle.std.specs.Prelude.{Bool, true, false, Err, IfOk, Ok, Result, option_map, ◌⊎◌}
use Rattle.solver_io.specs.Files.{Files}
use Rattle.workbook.specs.State.{State}
use Rattle.commands.specs.Commands.{Solve, Spoken}
use Rattle.commands.specs.Lines.{is_refusal}
use Rattle.commands.specs.declared.answer.Answer.{Answer}
use Rattle.node_pick.specs.Rules.{Rule}
use Rattle.made_up_books.specs.MadeUp.{made_up, sheet_name}
use Rattle.session.specs.States.{SessionState, opened}
use Rattle.opensolver_cli.specs.Counted.{CountedState}
use Rattle.session.specs.Steps.{Applies, once_written}
use Rattle.opensolver_cli.specs.Answering.{AnswersSize, Says, IsSinkFault, SolvesSize}
use Rattle.opensolver_cli.specs.Completeness.{EndsExactly, IsEarly, IsWhole}
use Rattle.opensolver_cli.specs.Headline.{EndsOver, IsCounted, RunsAs, rule_of}
use Rattle.opensolver_cli.specs.MadeUp.{MadeUpEnds, SaysLine, made_up_line, status_by}
use Rattle.opensolver_cli.specs.Outside.{IsFolderLeft, IsScriptLeft, Outside}
use Rattle.command_line.specs.Read.{asked_read, job_read}
use Rattle.command_line.specs.declared.words.Asked as words
use Rattle.command_line.specs.declared.words.Asked.TheVariants as asked_words
use Rattle.command_line.specs.declared.words.Job as job_words
use Rattle.command_line.specs.Words.{Asked, Job, MadeUp, Script, default_budget, depth}
use Rattle.run_inputs.specs.declared.status.Status.{Status}
use Rattle.run_inputs.specs.declared.status.Status.TheVariants as status
use Rattle.opensolver_cli.proofs.RunLaws.{counted, memory_exactly, put_by_line}

-- ---- the solve
-- the sheet was solved, by a picker of this rule
was_solved : (size : ℕ) (here : Rule) (begins applied : SessionState) (sheet : List ℕ) (a : Answer) (line : List ℕ) (refused : Bool) → begins ≡ opened (made_up size) default_budget → sheet ≡ sheet_name → Applies here begins (Solve sheet) a applied
    → line ≡ made_up_line size a → refused ≡ is_refusal (sheet_name ∷ []) a → AnswersSize here size line refused
was_solved size here begins applied sheet a line refused opens named does line_is refusal =
    let over_it : Applies here (opened (made_up size) default_budget) (Solve sheet) a applied = subst (λ (z : SessionState). Applies here z (Solve sheet) a applied) opens does in
    let its_sheet : Applies here (opened (made_up size) default_budget) (Solve sheet_name) a applied = subst (λ (z : List ℕ). Applies here (opened (made_up size) default_budget) (Solve z) a applied) named over_it in
    record {
      answer = a;
      next = once_written a applied;
      step = (applied, its_sheet, refl);
      line_is = line_is;
      refusal = refusal;
    }

-- the same, where the line was made
pub was_said : {T E : Type 0} (result : Result T E) (line : T → List ℕ) (refused : T → Bool) (size : ℕ) (here : Rule) (begins applied : SessionState) (s : Spoken) (a : Answer) → begins ≡ opened (made_up size) default_budget → s ≡ Solve sheet_name
    → Applies here begins s a applied → IfOk result (λ t. line t ≡ made_up_line size a) → IfOk result (λ t. refused t ≡ is_refusal (sheet_name ∷ []) a) → IfOk result (λ t. AnswersSize here size (line t) (refused t))
was_said (Ok t) line refused size here begins applied s a opens is does line_is refusal =
    was_solved size here begins applied sheet_name a (line t) (refused t) opens refl (subst (λ (z : Spoken). Applies here begins z a applied) is does) line_is refusal
was_said (Err e) line refused size here begins applied s a opens is does line_is refusal = tt

-- the session of its workbook
pub opened_so : (size : ℕ) (book : State) (session : CountedState) → book ≡ made_up size → session.state ≡ opened book default_budget → session.state ≡ opened (made_up size) default_budget
opened_so size book session is opens = opens ∙ ap (λ (z : State). opened z default_budget) is

-- ---- one line
-- the line of the answer was said
pub answer_said : (rule : Rule) (size : ℕ) (line : List ℕ) (refused : Bool) (bytes : List ℕ) (said : Status) (before after : Option (List (List ℕ))) (ends : Status) → AnswersSize rule size line refused → bytes ≡ line → said ≡ status_by refused
    → Says bytes said before after ends → SolvesSize rule size before after ends
answer_said rule size line refused bytes said before after ends is same by says =
    let status_is : said ≡ status_by (is_refusal (sheet_name ∷ []) is.answer) = by ∙ ap status_by is.refusal in
    inl (is.answer, is.next, is.step, subst (λ (z : Status). Says (made_up_line size is.answer) z before after ends) status_is (subst (λ (z : List ℕ). Says z said before after ends) (same ∙ is.line_is) says))

-- what is printed, where no file is changed
says_line : (line : List ℕ) (said : Status) (before after : Outside) (ends : Status) → after.files ≡ before.files → Says line said before.pieces after.pieces ends → SaysLine line said before after ends
says_line line said before after status.Done same h = (sym h.0, record { printed = h.1; files = same })
says_line line said before after status.Refused same h = (sym h.0, record { printed = h.1; files = same })
says_line line said before after status.Usage same h = (sym h.0, record { printed = h.1; files = same })
says_line line said before after status.Limit same h = (sym h.0, record { printed = h.1; files = same })
says_line line said before after status.BadInput same h = (sym h.0, record { printed = h.1; files = same })
says_line line said before after status.WriteFault same h = record { printed = h; files = same }
says_line line said before after status.Memory same h = record { printed = h; files = same }
says_line line said before after status.ReadFault same h = absurd h

-- ---- ends
-- the ends of a solve
abbrev Ends : Status → Type 0
Ends ends = (IsWhole ends ⊎ IsEarly ends) × (ends ≢ status.ReadFault)

ends_said : (refused : Bool) (line : List ℕ) (before after : Option (List (List ℕ))) (ends : Status) → Says line (status_by refused) before after ends → Ends ends
ends_said refused line before after status.Done h = (inl tt, λ e. cc e)
ends_said refused line before after status.Refused h = (inl tt, λ e. cc e)
ends_said true line before after status.Usage h = absurd (cc h.0)
ends_said false line before after status.Usage h = absurd (cc h.0)
ends_said true line before after status.Limit h = absurd (cc h.0)
ends_said false line before after status.Limit h = absurd (cc h.0)
ends_said true line before after status.BadInput h = absurd (cc h.0)
ends_said false line before after status.BadInput h = absurd (cc h.0)
ends_said refused line before after status.WriteFault h = (inr tt, λ e. cc e)
ends_said refused line before after status.Memory h = (inr tt, λ e. cc e)
ends_said refused line before after status.ReadFault h = absurd h

pub size_ends : (rule : Rule) (size : ℕ) (before after : Option (List (List ℕ))) (ends : Status) → SolvesSize rule size before after ends → Ends ends
size_ends rule size before after ends (inl (answer, next, step, says)) = ends_said (is_refusal (sheet_name ∷ []) answer) (made_up_line size answer) before after ends says
size_ends rule size before after ends (inr (memory, same)) = subst Ends (sym memory) (inr tt, λ e. cc e)

made_up_ends : (rule : Rule) (size : ℕ) (before after : Outside) (ends : Status) → after.files ≡ before.files → SolvesSize rule size before.pieces after.pieces ends → MadeUpEnds rule size before after ends
made_up_ends rule size before after ends same (inl (answer, next, step, says)) = inl (record {
  answer = answer;
  next = next;
  step = step;
  says = says_line (made_up_line size answer) (status_by (is_refusal (sheet_name ∷ []) answer)) before after ends same says;
})
made_up_ends rule size before after ends same (inr (memory, none)) = inr (memory, record { printed = none; files = same })

-- ---- the solve of a size
-- what the words ask for, where a size was read
pub asked_size : (size : ℕ) (read : words.Asked) (given : Option words.Asked) (asked : Option Asked) → given ≡ Some read → read ≡ asked_words.MadeUp size → option_map asked_read given ≡ asked → Some (MadeUp size) ≡ asked
asked_size size read given asked is size_is reads = ap (λ (z : words.Asked). Some (asked_read z)) (sym size_is) ∙ ap (option_map asked_read) (sym is) ∙ reads

-- the same where a job was read
pub asked_script : (job : job_words.Job) (read : words.Asked) (given : Option words.Asked) (asked : Option Asked) → given ≡ Some read → read ≡ asked_words.Script job → option_map asked_read given ≡ asked → Some (Script (job_read job)) ≡ asked
asked_script job read given asked is job_is reads = ap (λ (z : words.Asked). Some (asked_read z)) (sym job_is) ∙ ap (option_map asked_read) (sym is) ∙ reads

folder_left : (o : Outside) → IsFolderLeft o o
folder_left o = record { files = refl; reads = refl; writes = refl; wants = refl }

script_left : (o : Outside) → IsScriptLeft o o
script_left o = record { left = refl; reads = refl }

pub size_runs : (rules : List Rule) (size : ℕ) (asked : Option Asked) (before after : Outside) (ends : Status) → Some (MadeUp size) ≡ asked → IsFolderLeft before after → IsScriptLeft before after
    → SolvesSize (rule_of rules depth) size before.pieces after.pieces ends → RunsAs rules asked before after ends
size_runs rules size asked before after ends is folder script h =
    subst (λ (z : Option Asked). RunsAs rules z before after ends) is (made_up_ends (rule_of rules depth) size before after ends folder.files h, folder, script)

pub size_exactly : (rule : Rule) (size : ℕ) (asked : Option Asked) (files : Option Files) (left : Option (List ℕ)) (before after : Option (List (List ℕ))) (ends : Status) → Some (MadeUp size) ≡ asked
    → SolvesSize rule size before after ends → EndsExactly asked files left ends
size_exactly rule size asked files left before after ends is h = subst (λ (z : Option Asked). EndsExactly z files left ends) is (size_ends rule size before after ends h).0

pub size_counted : (rule : Rule) (size : ℕ) (before after : Outside) (ends : Status) → IsFolderLeft before after → IsScriptLeft before after → SolvesSize rule size before.pieces after.pieces ends
    → IsSinkFault before.sink_writes after.sink_writes ends → IsCounted before after ends
size_counted rule size before after ends folder script h cause =
    counted before after ends (size_ends rule size before.pieces after.pieces ends h).1 (folder.reads, script.reads) (put_by_line before after ends folder.writes folder.wants cause) (λ _. folder.files)

-- ---- no memory for the words
nothing_over : (rule : Rule) (job : Job) (o : Outside) (files : Option Files) (left : Option (List ℕ)) → EndsOver rule job files left o o status.Memory
nothing_over rule job o None left = tt
nothing_over rule job o (Some files) None = tt
nothing_over rule job o (Some files) (Some script) = (inl (record { printed = refl; files = refl }), λ stop is. script_left o)

pub memory_runs : (rules : List Rule) (asked : Option Asked) (o : Outside) → RunsAs rules asked o o status.Memory
memory_runs rules None o =
    (record { printed = refl; files = refl }, folder_left o, script_left o)
memory_runs rules (Some (Script job)) o = (nothing_over (rule_of rules job.pick) job o o.files o.left, λ big. (folder_left o, script_left o))
memory_runs rules (Some (MadeUp size)) o = (inr (refl, record { printed = refl; files = refl }), folder_left o, script_left o)

pub memory_ends : (asked : Option Asked) (files : Option Files) (left : Option (List ℕ)) → EndsExactly asked files left status.Memory
memory_ends None files left = inr tt
memory_ends (Some (Script job)) files left = memory_exactly job files left
memory_ends (Some (MadeUp size)) files left = inr tt
