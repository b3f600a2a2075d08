use Rattle.std.proofs.Common.{ℕ, Bool, List, length, ap, ◌∙◌, sym, subst}
use Rattle.std.specs.Prelude.{Ok, Err}
use Rattle.std.proofs.lemmas.Bool.{false≢true}
use Rattle.opt_certificate.specs.Checks.{Checked}
use Rattle.opt_certificate.specs.Claims.{IsOfSize, claim_of}
use Rattle.opt_certificate.specs.declared.checking.CheckStop.{CheckStop}
use Rattle.sheet_linear_model.specs.Answers.{prepared_of}
use Rattle.optcheck_cli.specs.Verdicts.{IsVerdict}
use Rattle.optcheck_cli.specs.declared.verdict.Verdict.TheVariants as verdict
use Rattle.optcheck_cli.proofs.Judging.{judged_over, no_by_check, no_by_size, wide_by_check}
use Rattle.optcheck_cli.proofs.verdict.judge_over.Goals as goal

pub returns-then-not-is_of_size-clause-judges : goal.returns-then-not-is_of_size-clause-judges
returns-then-not-is_of_size-clause-judges c = λ book d prepared same is.
    no_by_size book (prepared_of c.args.of.now) c.args.cert.now d prepared is
    (λ h. false≢true (sym c.if-not-is_of_size.true ∙ c.is_of_size.ensures.1 (subst (λ (marks : List Bool). IsOfSize (length marks) c.args.cert.now.claim) (sym c.whole.ensures.whole) h)))

pub returns-in-Ok-false-clause-judges : goal.returns-in-Ok-false-clause-judges
returns-in-Ok-false-clause-judges c = λ book d prepared same is.
    no_by_check book (prepared_of c.args.of.now) c.args.cert.now d prepared is
    (subst (λ (b : Bool). Checked c.args.of.now.model d.tree (claim_of c.args.cert.now.claim) (Ok b)) c.in-Ok-false.field-0-test (c.in-Ok-false.ensures.checked d.tree is.tree))

pub returns-in-Ok-true-clause-judges : goal.returns-in-Ok-true-clause-judges
returns-in-Ok-true-clause-judges c =
    judged_over c.judge_value.result (prepared_of c.args.of.now) c.args.cert.now
    (subst (λ (marks : List Bool). IsOfSize (length marks) c.args.cert.now.claim) c.whole.ensures.whole (c.is_of_size.ensures.0 c.if-not-is_of_size.false))
    (λ t l. subst (λ (b : Bool). Checked c.args.of.now.model t (claim_of c.args.cert.now.claim) (Ok b)) c.in-Ok-true.field-0-test (c.in-Ok-true.ensures.checked t l))
    (c.in-Ok-true.ensures.holds (ap Ok c.in-Ok-true.field-0-test)) c.judge_value.ensures

pub returns-in-Err-Wide-clause-judges : goal.returns-in-Err-Wide-clause-judges
returns-in-Err-Wide-clause-judges c = λ book d prepared same is.
    subst (λ (n : ℕ). IsVerdict book d (verdict.Wide n)) (sym c.in-Err-Wide.node-is)
    (wide_by_check book (prepared_of c.args.of.now) c.args.cert.now d c.in-Err-Wide.node prepared is
    (subst (λ (e : CheckStop). Checked c.args.of.now.model d.tree (claim_of c.args.cert.now.claim) (Err e)) c.in-Err-Wide.field-0-is (c.in-Err-Wide.ensures.checked d.tree is.tree)))
