-- How a run over files ends, by what it finds and what it says.
use Rattle.std.proofs.Common.{◌≡◌, ◌≢◌, ◌<◌, ℕ, List, Option, Some, None, IfSome, length, refl, ap, sym, subst, inl, inr, ◌∙◌}
use Rattle.std.specs.Prelude.{Ok, Err, ◌⊎◌}
use Rattle.solver_io.specs.Causes.{Rose}
use Rattle.solver_io.specs.Files.{Files}
use Rattle.certificate_lines.specs.Cert.{Cert}
use Rattle.certificate_texts.specs.Answers.{IsTheCert}
use Rattle.certificate_texts.specs.declared.cert.Cert.{Cert as Made}
use Rattle.workbook.specs.State.{State}
use Rattle.cell_refs.specs.declared.limits.TheConstants.{SHEETS}
use Rattle.run_inputs.proofs.FileLaws.{length_texts}
use Rattle.run_inputs.specs.declared.stop.Stop.TheVariants as stop
use Rattle.optcheck_cli.specs.Findings.{Finds}
use Rattle.optcheck_cli.specs.Headline.{EndsAs, EndsOver, IsCounted, LeavesTooMany, RunsAs, SaysUsage}
use Rattle.optcheck_cli.specs.Inner.{FindsMade, IsSinkFault, Says, SaysVerdict, TellsVerdict}
use Rattle.optcheck_cli.specs.Lines.{halt_line, status_by, status_of, usage_line, verdict_line}
use Rattle.optcheck_cli.specs.Outside.{IsFolderKept, Outside}
use Rattle.optcheck_cli.specs.Verdicts.{IsVerdict}
use Rattle.optcheck_cli.specs.Read.{asked_read}
use Rattle.optcheck_cli.specs.Words.{Asked}
use Rattle.optcheck_cli.specs.declared.words.Asked as words
use Rattle.optcheck_cli.specs.declared.halt.End.TheVariants as end
use Rattle.optcheck_cli.specs.declared.halt.Halt.{Halt}
use Rattle.optcheck_cli.specs.declared.halt.Halt.TheVariants as halt
use Rattle.optcheck_cli.specs.declared.status.CheckStatus.{CheckStatus}
use Rattle.optcheck_cli.specs.declared.status.CheckStatus.TheVariants as status
use Rattle.optcheck_cli.specs.declared.verdict.Verdict.{Verdict}
use Rattle.optcheck_cli.specs.declared.verdict.Verdict.TheVariants as verdict

-- ---- statuses
pub two_verdicts : (v : Verdict) → (status_by v ≡ status.Yes) ⊎ (status_by v ≡ status.No)
two_verdicts verdict.Yes = inl refl
two_verdicts verdict.No = inr refl
two_verdicts (verdict.Wide node) = inr refl
two_verdicts (verdict.Refused answer) = inr refl

pub two_halts : (cause : Halt) → (status_of cause ≡ status.Limit) ⊎ (status_of cause ≡ status.BadInput)
two_halts (halt.Files (stop.TooMuch kind)) = inl refl
two_halts (halt.Files (stop.BadInput of why)) = inr refl
two_halts halt.Missing = inr refl
two_halts (halt.NotUtf8 place) = inr refl
two_halts (halt.Line line) = inr refl

-- ---- the check was made
confirmed : (asked : Asked) (files : Files) (before after : Outside) (book : State) (cert : Cert) (v : Verdict) → Finds asked files (Ok (book, cert)) → IsVerdict book cert v
    → Says (verdict_line book.sheets cert v) (status_by v) before.pieces after.pieces status.Yes → EndsAs asked files before after status.Yes
confirmed asked files before after book cert verdict.Yes found is says = record { book = book; cert = cert; found = found; holds = is.0; passes = is.1; done = says.1 }
confirmed asked files before after book cert verdict.No found is says = absurd (cc says.0)
confirmed asked files before after book cert (verdict.Wide node) found is says = absurd (cc says.0)
confirmed asked files before after book cert (verdict.Refused answer) found is says = absurd (cc says.0)

other_verdict : (v : Verdict) (s : CheckStatus) → s ≢ status.Yes → s ≢ status.No → ¬ (status_by v ≡ s)
other_verdict v s not_yes not_no is = elim (two_verdicts v) [
  | inl e ↦ not_yes (sym is ∙ e)
  | inr e ↦ not_no (sym is ∙ e)
]

by_verdict : (asked : Asked) (files : Files) (before after : Outside) (book : State) (cert : Cert) (v : Verdict) (r : CheckStatus) → Finds asked files (Ok (book, cert)) → IsVerdict book cert v
    → Says (verdict_line book.sheets cert v) (status_by v) before.pieces after.pieces r → EndsAs asked files before after r
by_verdict asked files before after book cert v status.Yes found is says = confirmed asked files before after book cert v found is says
by_verdict asked files before after book cert v status.No found is says = record { book = book; cert = cert; found = found; verdict = v; is = is; done = says }
by_verdict asked files before after book cert v status.Usage found is says = absurd (other_verdict v status.Usage (λ e. cc e) (λ e. cc e) says.0)
by_verdict asked files before after book cert v status.ReadFault found is says = absurd says
by_verdict asked files before after book cert v status.WriteFault found is says = inl (record { book = book; cert = cert; found = found; verdict = v; is = is; done = says })
by_verdict asked files before after book cert v status.Memory found is says = says
by_verdict asked files before after book cert v status.Limit found is says = absurd (other_verdict v status.Limit (λ e. cc e) (λ e. cc e) says.0)
by_verdict asked files before after book cert v status.BadInput found is says = absurd (other_verdict v status.BadInput (λ e. cc e) (λ e. cc e) says.0)

judged : (asked : Asked) (files : Files) (before after : Outside) (book : State) (cert : Cert) (r : CheckStatus) → Finds asked files (Ok (book, cert)) → SaysVerdict book cert before.pieces after.pieces r
    → EndsAs asked files before after r
judged asked files before after book cert r found (inl (v, (is, says))) = by_verdict asked files before after book cert v r found is says
judged asked files before after book cert r found (inr (is, same)) = subst (EndsAs asked files before after) (sym is) same

-- the same, where the folder tells its bytes
pub judged_over : (asked : Asked) (content : Option Files) (before after : Outside) (book : State) (made : Made) (r : CheckStatus) → IfSome content (λ files. FindsMade asked files (Ok (book, made)))
    → ((cert : Cert) → IsTheCert made cert → SaysVerdict book cert before.pieces after.pieces r) → EndsOver asked content before after r
judged_over asked None before after book made r found says = tt
judged_over asked (Some files) before after book made r (cert, (is, found)) says = judged asked files before after book cert r found (says cert is)

-- the line of a verdict was said
pub verdict_said : (book : State) (cert : Cert) (line text : List ℕ) (said : CheckStatus) (before after : Option (List (List ℕ))) (r : CheckStatus) → TellsVerdict book cert line said → text ≡ line
    → Says text said before after r → SaysVerdict book cert before after r
verdict_said book cert line text said before after r (v, (is, spelled, by)) same says =
    inl (v, (is, subst (λ (z : CheckStatus). Says (verdict_line book.sheets cert v) z before after r) by (subst (λ (z : List ℕ). Says z said before after r) (same ∙ spelled) says)))

-- a verdict's status and its line, by the sheets of the workbook
pub verdict_told : (book : State) (cert : Cert) (v : Verdict) (sheets : List (List ℕ)) (line : List ℕ) (said : CheckStatus) → IsVerdict book cert v → sheets ≡ book.sheets → line ≡ verdict_line sheets cert v → said ≡ status_by v
    → TellsVerdict book cert line said
verdict_told book cert v sheets line said is same spelled by = (v, (is, spelled ∙ ap (λ (names : List (List ℕ)). verdict_line names cert v) same, by))

-- ---- the run ends before the check
other_halt : (cause : Halt) (s : CheckStatus) → s ≢ status.Limit → s ≢ status.BadInput → ¬ (status_of cause ≡ s)
other_halt cause s limit bad is = elim (two_halts cause) [
  | inl e ↦ limit (sym is ∙ e)
  | inr e ↦ bad (sym is ∙ e)
]

halted : (asked : Asked) (files : Files) (before after : Outside) (cause : Halt) (r : CheckStatus) → Finds asked files (Err cause) → Says (halt_line asked cause) (status_of cause) before.pieces after.pieces r
    → EndsAs asked files before after r
halted asked files before after cause status.Yes found says = absurd (other_halt cause status.Yes (λ e. cc e) (λ e. cc e) says.0)
halted asked files before after cause status.No found says = absurd (other_halt cause status.No (λ e. cc e) (λ e. cc e) says.0)
halted asked files before after cause status.Usage found says = absurd (other_halt cause status.Usage (λ e. cc e) (λ e. cc e) says.0)
halted asked files before after cause status.ReadFault found says = absurd says
halted asked files before after cause status.WriteFault found says = inr (record { cause = cause; found = found; done = says })
halted asked files before after cause status.Memory found says = says
halted asked files before after cause status.Limit found says = record { cause = cause; found = found; done = says }
halted asked files before after cause status.BadInput found says = record { cause = cause; found = found; done = says }

pub halted_over : (asked : Asked) (content : Option Files) (before after : Outside) (cause : Halt) (r : CheckStatus) → IfSome content (λ files. FindsMade asked files (Err (end.Halted cause)))
    → Says (halt_line asked cause) (status_of cause) before.pieces after.pieces r → EndsOver asked content before after r
halted_over asked None before after cause r found says = tt
halted_over asked (Some files) before after cause r found says = halted asked files before after cause r found says

-- nothing was printed
pub unseen : (asked : Asked) (content : Option Files) (before after : Outside) (r : CheckStatus) → (r ≡ status.ReadFault) ⊎ (r ≡ status.Memory) → after.pieces ≡ before.pieces → EndsOver asked content before after r
unseen asked None before after r is none = tt
unseen asked (Some files) before after r (inl is) none = subst (EndsAs asked files before after) (sym is) none
unseen asked (Some files) before after r (inr is) none = subst (EndsAs asked files before after) (sym is) none

-- no file was read where too many sheets are named
pub none_read : (asked : words.Asked) (before after : Outside) → (SHEETS < length asked.named.sheets.items → after.folder_reads ≡ before.folder_reads) → LeavesTooMany (asked_read asked) before after
none_read asked before after many = λ big. many (subst (λ (k : ℕ). SHEETS < k) (length_texts asked.named.sheets.items) big)

-- ---- words of another form
pub usage_said : (before after : Outside) (r : CheckStatus) → Says usage_line status.Usage before.pieces after.pieces r → SaysUsage before after r
usage_said before after status.Usage says = says.1
usage_said before after status.WriteFault says = says
usage_said before after status.Memory says = says
usage_said before after status.Yes says = absurd (cc says.0)
usage_said before after status.No says = absurd (cc says.0)
usage_said before after status.Limit says = absurd (cc says.0)
usage_said before after status.BadInput says = absurd (cc says.0)
usage_said before after status.ReadFault says = absurd says

-- ---- counts
sink_kept : (before now : ℕ) (r : CheckStatus) → IsSinkFault before now r → r ≢ status.WriteFault → now ≡ before
sink_kept before now status.WriteFault cause other = absurd (other refl)
sink_kept before now status.Yes cause other = cause
sink_kept before now status.No cause other = cause
sink_kept before now status.Usage cause other = cause
sink_kept before now status.ReadFault cause other = cause
sink_kept before now status.Memory cause other = cause
sink_kept before now status.Limit cause other = cause
sink_kept before now status.BadInput cause other = cause

pub counted : (before after : Outside) (r : CheckStatus) → r ≢ status.ReadFault → after.folder_reads ≡ before.folder_reads → IsFolderKept before after → IsSinkFault before.sink_writes after.sink_writes r
    → IsCounted before after r
counted before after r other reads kept cause = record {
  read_fault = λ e. absurd (other e);
  quiet = λ e. absurd (other e);
  no_read_fault = λ _. reads;
  write_fault = λ e. subst (IsSinkFault before.sink_writes after.sink_writes) e cause;
  no_write_fault = sink_kept before.sink_writes after.sink_writes r cause;
  folder = kept;
}

pub read_fault_counted : (before after : Outside) → Rose before.folder_reads after.folder_reads → after.pieces ≡ before.pieces → after.sink_writes ≡ before.sink_writes → IsFolderKept before after
    → IsCounted before after status.ReadFault
read_fault_counted before after rose none sink kept = record {
  read_fault = λ _. rose;
  quiet = λ _. none;
  no_read_fault = λ other. absurd (other refl);
  write_fault = λ e. cc e;
  no_write_fault = λ _. sink;
  folder = kept;
}

-- ---- no memory for the words
pub memory_runs : (asked : Option Asked) (o : Outside) → RunsAs asked o o status.Memory
memory_runs None o = (refl, refl)
memory_runs (Some asked) o = (unseen asked o.files o o status.Memory (inr refl) refl, λ big. refl)
