-- The certificate of a sheet as a session tells it.
use Rattle.std.proofs.Common.{◌≡◌, ℕ, refl}
use Rattle.std.specs.Prelude.{IfOk, Result, Ok, Err}
use Rattle.node_pick.specs.Rules.{Rule}
use Rattle.workbook.specs.State.{State}
use Rattle.kept_book.specs.FromSheetSolving.{whole_task}
use Rattle.kept_tables.specs.FromSheetProblems.{ModelIsTheSheet}
use Rattle.sheet_linear_model.specs.Prepared.{IsPrepared, Prepared}
use Rattle.sheet_certificates.specs.Certified.{AnswersCertificate}
use Rattle.commands.specs.declared.answer.Answer.{Answer}
use Rattle.commands.specs.declared.answer.Answer.TheVariants as answer
use Rattle.session.specs.Certificates.{CertifiesSheet}
use Rattle.session.specs.States.{SessionState}

certificate_tells : (rule : Rule) (before : SessionState) (sheet : ℕ) (p : Prepared) (a : Answer) → IsPrepared before.book sheet p
    → AnswersCertificate (whole_task rule before.budget) before.book p.statement p.model a → CertifiesSheet rule before sheet a before
certificate_tells rule before sheet p (answer.Names fault) is h = absurd h
certificate_tells rule before sheet p (answer.Form refusal) is h = absurd h
certificate_tells rule before sheet p (answer.WideRow row) is h = absurd h
certificate_tells rule before sheet p a is h = (p, is, (h, refl))

pub all_certified : {E : Type 0} (rule : Rule) (before : SessionState) (sheet : ℕ) (p : Prepared) (r : Result Answer E) → IsPrepared before.book sheet p → ModelIsTheSheet before.book p.statement p.model
    → IfOk r (λ a. (book : State) → ModelIsTheSheet book p.statement p.model → AnswersCertificate (whole_task rule before.budget) book p.statement p.model a)
    → IfOk r (λ a. CertifiesSheet rule before sheet a before)
all_certified rule before sheet p (Ok a) is same h = certificate_tells rule before sheet p a is (h before.book same)
all_certified rule before sheet p (Err e) is same h = h
