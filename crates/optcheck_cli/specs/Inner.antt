-- What inner contracts cite.
use Rattle.std.specs.Prelude.{◌≡◌, ◌⊎◌, ◌∷◌, ℕ, List, [], Option, Some, Result, Ok, Err, Vec, IsUtf8, option_map, ⊤}
use Rattle.std.specs.Global.{Global}
use Rattle.std.specs.Str.Lossy.{utf8_valid_len}
use Rattle.fractions.specs.Rational.{ℚ, neg_ℚ}
use Rattle.optimality.specs.Problem.{Goal, greatest, least, reach}
use Rattle.solver_io.specs.Bytes.{Takes, TakesSome}
use Rattle.solver_io.specs.Causes.{Rose}
use Rattle.solver_io.specs.Files.{Files}
use Rattle.cell_refs.specs.declared.cell.Cell.{Cell}
use Rattle.linear_models.specs.Model.{Model, maximised}
use Rattle.linear_models.specs.Worths.{form_at}
use Rattle.opt_certificate.specs.Certificate.{Claim, infeasible, optimal, unbounded}
use Rattle.opt_certificate.specs.Sums.{StaysNarrow, form_sum}
use Rattle.certificate_lines.specs.Cert.{Cert}
use Rattle.certificate_lines.specs.Heads.{IsReadAs, StopsAt}
use Rattle.certificate_texts.specs.Answers.{IsTheCert}
use Rattle.certificate_texts.specs.declared.cert.Cert.{Cert as Made}
use Rattle.commands.specs.Lines.{CanBeSaid}
use Rattle.workbook.specs.State.{State}
use Rattle.command_line.specs.Words.{Named}
use Rattle.run_inputs.specs.Findings.{book_in}
use Rattle.optcheck_cli.specs.Findings.{Finds, text_held}
use Rattle.optcheck_cli.specs.Lines.{status_by, verdict_line}
use Rattle.optcheck_cli.specs.Verdicts.{IsVerdict}
use Rattle.optcheck_cli.specs.Words.{Asked}
use Rattle.optcheck_cli.specs.declared.halt.End.{End}
use Rattle.optcheck_cli.specs.declared.halt.End.TheVariants as end
use Rattle.optcheck_cli.specs.declared.halt.Halt.{Halt}
use Rattle.optcheck_cli.specs.declared.halt.Halt.TheVariants as halt
use Rattle.optcheck_cli.specs.declared.status.CheckStatus.{CheckStatus}
use Rattle.optcheck_cli.specs.declared.status.CheckStatus.TheVariants as status
use Rattle.optcheck_cli.specs.declared.verdict.Verdict.{Verdict}
use Rattle.optcheck_cli.specs.declared.verdict.Verdict.TheVariants as verdict

-- ---- files
-- a call of the folder failed only where the count of faults rose, and after every other end that count is as before
abbrev pub EndCause : {T : Type 0} → ℕ → ℕ → Result T End → Type 0
EndCause before now (Ok x) = now ≡ before
EndCause before now (Err (end.Halted cause)) = now ≡ before
EndCause before now (Err end.Failed) = Rose before now
EndCause before now (Err end.Memory) = now ≡ before

-- the workbook that the files spell, or why there is none; a failed call and want of memory tell nothing
abbrev pub OpensBook : Named → Files → Result State End → Type 0
OpensBook named files (Ok book) = book_in named files ≡ Ok book
OpensBook named files (Err (end.Halted (halt.Files cause))) = book_in named files ≡ Err cause
OpensBook named files (Err (end.Halted _)) = ⊥
OpensBook named files (Err _) = ⊤

-- the bytes of the certificate, or why there are none
abbrev pub ReadsBytes : Option (List ℕ) → Result (Vec ℕ Global) End → Type 0
ReadsBytes held (Ok bytes) = held ≡ Some bytes.items
ReadsBytes held (Err (end.Halted cause)) = (text_held held ≡ Err cause) × ((line : ℕ) → ¬ (cause ≡ halt.Line line))
ReadsBytes held (Err _) = ⊤

-- bytes are no text, or one that stops at a line
abbrev pub HaltsAt : List ℕ → Halt → Type 0
HaltsAt bytes (halt.NotUtf8 place) = (¬ (IsUtf8 bytes)) × (place ≡ utf8_valid_len bytes)
HaltsAt bytes (halt.Line line) = IsUtf8 bytes × StopsAt bytes line
HaltsAt bytes _ = ⊥

-- the certificate of which the bytes are the text
abbrev pub ReadsText : List ℕ → Result Made End → Type 0
ReadsText bytes (Ok made) = IsUtf8 bytes × ((cert : Cert) × (IsTheCert made cert × IsReadAs bytes cert))
ReadsText bytes (Err (end.Halted cause)) = HaltsAt bytes cause
ReadsText bytes (Err end.Failed) = ⊥
ReadsText bytes (Err end.Memory) = ⊤

-- why the certificate's file is none
abbrev pub HaltsBy : Option (List ℕ) → Halt → Type 0
HaltsBy held (halt.Line line) = (text : List ℕ) × ((text_held held ≡ Ok text) × StopsAt text line)
HaltsBy held (halt.Files cause) = text_held held ≡ Err (halt.Files cause)
HaltsBy held halt.Missing = text_held held ≡ Err halt.Missing
HaltsBy held (halt.NotUtf8 place) = text_held held ≡ Err (halt.NotUtf8 place)

-- the certificate in its file, or why there is none
abbrev pub ReadsCertificate : Option (List ℕ) → Result Made End → Type 0
ReadsCertificate held (Ok made) = (text : List ℕ) × (cert : Cert) × ((text_held held ≡ Ok text) × (IsTheCert made cert × IsReadAs text cert))
ReadsCertificate held (Err (end.Halted cause)) = HaltsBy held cause
ReadsCertificate held (Err _) = ⊤

-- the workbook and the certificate, or why the run ends before the check
abbrev pub FindsMade : Asked → Files → Result (State × Made) End → Type 0
FindsMade asked files (Ok (book, made)) = (cert : Cert) × (IsTheCert made cert × Finds asked files (Ok (book, cert)))
FindsMade asked files (Err (end.Halted cause)) = Finds asked files (Err cause)
FindsMade asked files (Err _) = ⊤

-- ---- the value
-- the objective's number by that of the form that is to be as great as can be
abbrev pub value_told : Goal → ℚ → ℚ
value_told greatest x = x
value_told least x = neg_ℚ x
value_told (reach wanted) x = wanted

abbrev pub told_of : Option Cell → Goal → ℚ → Option ℚ
told_of objective goal x = option_map (λ c. value_told goal x) objective

-- a yes where this is so, and a no where it isn't
abbrev pub Compared : Type 0 → Verdict → Type 0
Compared P verdict.Yes = P
Compared P verdict.No = ¬ P
Compared P _ = ⊥

-- where the claim is certified: yes where the value is told right, no where it isn't, and wide where the sum of the objective at the
-- claimed point isn't narrow
abbrev pub ValueJudged : Model → Option Cell → Goal → Claim → Option ℚ → Verdict → Type 0
ValueJudged m objective goal (optimal a) value verdict.Yes = value ≡ told_of objective goal (form_at (maximised m.goal m.objective) a)
ValueJudged m objective goal (optimal a) value verdict.No = ¬ (value ≡ told_of objective goal (form_at (maximised m.goal m.objective) a))
ValueJudged m objective goal (optimal a) value (verdict.Wide node) = (node ≡ 0) × ¬ (StaysNarrow (form_sum (maximised m.goal m.objective) a))
ValueJudged m objective goal infeasible value verdict.Yes = ⊤
ValueJudged m objective goal (unbounded a d) value verdict.Yes = ⊤
ValueJudged m objective goal _ value _ = ⊥

-- ---- lines
-- the verdict can be printed: each cell in a refusal lies on one of the sheets
abbrev pub VerdictIsListed : List (List ℕ) → Verdict → Type 0
VerdictIsListed sheets (verdict.Refused answer) = CanBeSaid sheets answer
VerdictIsListed sheets _ = ⊤

-- a status that comes with one line
abbrev pub IsSaid : CheckStatus → Type 0
IsSaid status.Yes = ⊤
IsSaid status.No = ⊤
IsSaid status.Usage = ⊤
IsSaid status.Limit = ⊤
IsSaid status.BadInput = ⊤
IsSaid _ = ⊥

-- the line was printed and the status is this one; or a part of it was, and its write failed; or nothing was, and memory ran out
abbrev pub Says : List ℕ → CheckStatus → Option (List (List ℕ)) → Option (List (List ℕ)) → CheckStatus → Type 0
Says line said before after status.Yes = (said ≡ status.Yes) × Takes before after (line ∷ [])
Says line said before after status.No = (said ≡ status.No) × Takes before after (line ∷ [])
Says line said before after status.Usage = (said ≡ status.Usage) × Takes before after (line ∷ [])
Says line said before after status.Limit = (said ≡ status.Limit) × Takes before after (line ∷ [])
Says line said before after status.BadInput = (said ≡ status.BadInput) × Takes before after (line ∷ [])
Says line said before after status.WriteFault = TakesSome before after line
Says line said before after status.Memory = after ≡ before
Says line said before after status.ReadFault = ⊥

-- a fault of the sink is the status where its count rose, and else the count is as before
abbrev pub IsSinkFault : ℕ → ℕ → CheckStatus → Type 0
IsSinkFault before now status.WriteFault = Rose before now
IsSinkFault before now _ = now ≡ before

-- the line of a verdict, and the status that goes with it
abbrev pub TellsVerdict : State → Cert → List ℕ → CheckStatus → Type 0
TellsVerdict book cert line said = (v : Verdict) × (IsVerdict book cert v × (line ≡ verdict_line book.sheets cert v) × (said ≡ status_by v))

-- the line of a verdict was said; or memory ran out
abbrev pub SaysVerdict : State → Cert → Option (List (List ℕ)) → Option (List (List ℕ)) → CheckStatus → Type 0
SaysVerdict book cert before after ends =
    ((v : Verdict) × (IsVerdict book cert v × Says (verdict_line book.sheets cert v) (status_by v) before after ends))
    ⊎ ((ends ≡ status.Memory) × (after ≡ before))

-- how that ends
abbrev pub EndsJudging : CheckStatus → Type 0
EndsJudging status.Yes = ⊤
EndsJudging status.No = ⊤
EndsJudging status.WriteFault = ⊤
EndsJudging status.Memory = ⊤
EndsJudging _ = ⊥
