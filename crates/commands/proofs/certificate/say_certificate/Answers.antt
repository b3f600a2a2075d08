use Rattle.std.proofs.Common.{◌≡◌, ◌∙◌, ◌++◌, List, ℕ, ap, sym, codes, string_bytes}
use Rattle.opt_certificate.specs.Claims.{claim_of}
use Rattle.certificate_lines.specs.Cert.{cert_text}
use Rattle.commands.specs.Certificates.{certificate_text}
use Rattle.commands.proofs.Certificates.{with_end}
use Rattle.commands.proofs.certificate.say_certificate.Goals as goal

pub returns-clause-text : goal.returns-clause-text
returns-clause-text c =
    let cert = c.args.cert.now in
    let made = c.nodes-nodes.ensures.tree in
    let written = c.in_ok-write_cert.ensures.ok made.tree made.listed in
    let text_is : c.as_str.result.now ≡ certificate_text cert ++ codes "\n" =
    c.as_str.ensures.value ∙ written ∙ ap (λ (l : List ℕ). l ++ cert_text (record { tree = made.tree; claim = claim_of cert.claim; value = cert.value })) c.new-text.ensures.bytes
    ∙ sym (with_end cert made.tree made.listed) in
    c.in_ok-push_str.ensures.bytes ∙ ap (λ (l : List ℕ). string_bytes c.args.to.now ++ l) (c.before_line_end.ensures (certificate_text cert) text_is)

pub returns-clause-reads_back : goal.returns-clause-reads_back
returns-clause-reads_back c made is text light = c.in_ok-write_cert.ensures.reads_back made is.tree is.claim is.value text light
