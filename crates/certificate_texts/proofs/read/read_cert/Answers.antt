use Rattle.std.proofs.Common.{◌≡◌, [], Err, subst}
use Rattle.certificate_lines.specs.Machine.{at_end}
use Rattle.certificate_lines.specs.Reading.{ReadTo}
use Rattle.certificate_texts.specs.Answers.{LinesRead}
use Rattle.certificate_texts.specs.Drafts.{lines_of, state_of}
use Rattle.certificate_texts.proofs.Certs.{answered, stopped}
use Rattle.certificate_texts.proofs.Progress.{is_whole}
use Rattle.certificate_texts.proofs.read.read_cert.Goals as goal

pub cert_of-requires : goal.cert_of-requires
cert_of-requires c =
    is_whole c.args.text.now c.read_lines.new.draft
    (subst (λ x. ReadTo x (lines_of c.read_lines.new.draft) at_end [] × (state_of c.read_lines.new.draft.state ≡ at_end)) c.as_bytes.ensures.value c.in-Ok.ensures) c.requires

pub returns-in-Ok-cert_of : goal.returns-in-Ok-cert_of
returns-in-Ok-cert_of c =
    answered c.args.text.now c.read_lines.new.draft c.in-Ok-cert_of.cert
    (subst (λ x. ReadTo x (lines_of c.read_lines.new.draft) at_end [] × (state_of c.read_lines.new.draft.state ≡ at_end)) c.as_bytes.ensures.value c.in-Ok.ensures) c.in-Ok-cert_of.ensures

pub returns-in-Err : goal.returns-in-Err
returns-in-Err c = stopped c.args.text.now c.in-Err.fault c.read_lines.new.draft (subst (λ x. LinesRead x (Err c.in-Err.fault) c.read_lines.new.draft) c.as_bytes.ensures.value c.in-Err.ensures)
