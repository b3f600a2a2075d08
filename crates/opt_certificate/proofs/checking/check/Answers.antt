use Rattle.std.proofs.Common.{Bool, subst}
use Rattle.std.specs.Prelude.{Result}
use Rattle.opt_certificate.proofs.Certificates.{certificates_hold}
use Rattle.opt_certificate.specs.Checks.{Checked}
use Rattle.opt_certificate.specs.Claims.{claim_of}
use Rattle.opt_certificate.specs.declared.checking.CheckStop.{CheckStop}
use Rattle.opt_certificate.proofs.checking.check.Goals as goal

pub returns-clause-holds : goal.returns-clause-holds
returns-clause-holds c = λ q.
    let t = c.nodes-nodes.ensures.tree in
    let h = subst (λ (r : Result Bool CheckStop). Checked c.args.of.now t.tree (claim_of c.args.claim.now) r) q (c.check_claim.ensures t.tree t.listed) in
    certificates_hold c.args.of.now t.tree (claim_of c.args.claim.now) c.whole-marks.ensures.valid h.0
