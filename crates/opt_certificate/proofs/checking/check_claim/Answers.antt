use Rattle.std.proofs.Common.{◌≡◌, ap, ap₂, ◌∙◌, sym, subst, length, false}
use Rattle.affine_forms.specs.Forms.{AffineForm}
use Rattle.affine_forms.specs.Assigned.{ReachTo}
use Rattle.linear_models.proofs.Regular.{wanted_reach}
use Rattle.opt_certificate.specs.Certificate.{Claim, unbounded}
use Rattle.opt_certificate.specs.Checks.{Checked}
use Rattle.opt_certificate.specs.Claims.{claim_of}
use Rattle.opt_certificate.proofs.checking.check_claim.Goals as goal

pub check_optimal-requires-clause-below : goal.check_optimal-requires-clause-below
check_optimal-requires-clause-below c =
    subst (λ (f : AffineForm). ReachTo f.terms (length c.args.of.now.whole)) (sym c.in-Ok.ensures.form) (wanted_reach c.args.of.now false c.requires.valid)

pub check_unbounded-requires-clause-below : goal.check_unbounded-requires-clause-below
check_unbounded-requires-clause-below c =
    subst (λ (f : AffineForm). ReachTo f.terms (length c.args.of.now.whole)) (sym c.in-Ok.ensures.form) (wanted_reach c.args.of.now false c.requires.valid)

pub returns : goal.returns
returns c =
    let e : unbounded c.deref-in-Unbounded.result.now c.deref-in-Unbounded-2.result.now ≡ claim_of c.args.claim.now =
    ap₂ unbounded c.deref-in-Unbounded.ensures.value c.deref-in-Unbounded-2.ensures.value ∙ sym (ap claim_of c.in-Unbounded.is) in
    λ t l. subst (λ (claim : Claim). Checked c.args.of.now t claim c.check_unbounded.result) e (c.check_unbounded.ensures t)
