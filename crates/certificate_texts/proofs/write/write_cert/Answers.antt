use Rattle.std.proofs.Common.{◌∙◌, ◌++◌, ap, ap₂, subst}
use Rattle.std.specs.Prelude.{string_bytes}
use Rattle.opt_certificate.specs.Claims.{claim_of}
use Rattle.certificate_texts.specs.Nodes.{listed_text}
use Rattle.certificate_lines.proofs.Heads.{texts_are_read_back}
use Rattle.certificate_texts.specs.Fits.{IsFit}
use Rattle.certificate_texts.proofs.Fits.{has_text}
use Rattle.certificate_texts.proofs.Writing.{listed-text}
use Rattle.certificate_texts.proofs.write.write_cert.Goals as goal

pub returns-clause-ok : goal.returns-clause-ok
returns-clause-ok c = λ t h.
    c.in_ok-push_str.ensures.bytes
    ∙ ap (λ r. string_bytes c.args.to.now ++ r) (c.as_str.ensures.value ∙ c.in_ok-write_lines.ensures.text
    ∙ ap₂ (λ x ns. x ++ listed_text (claim_of c.args.claim.now) c.args.value ns) c.new-text.ensures.bytes c.nodes-nodes.ensures.nodes
    ∙ listed-text c.args.tree.now t (claim_of c.args.claim.now) c.args.value h)

pub returns-clause-reads_back : goal.returns-clause-reads_back
returns-clause-reads_back c = λ k l p q h w.
    texts_are_read_back k (has_text k (claim_of c.args.claim.now) c.args.value c.args.tree.now l p q h c.nodes-nodes.ensures.tree
    (subst (λ ns. IsFit (claim_of c.args.claim.now) c.args.value ns) c.nodes-nodes.ensures.nodes c.in_ok-write_lines.ensures.fits)) w
