use Rattle.solver_names.specs.Answers.{statement_of}
use Rattle.sheet_certificates.proofs.Certificates.{has_ended, never_more, shows_cert, shows_limit}
use Rattle.sheet_certificates.proofs.certifying.certificate.Goals as goal

pub tree-requires : goal.tree-requires
tree-requires c = record { ended = has_ended c.args.search.now c.args.end c.requires }

pub cert_of-requires : goal.cert_of-requires
cert_of-requires c = never_more c.args.search.now c.args.end c.requires

pub returns-in-Ok : goal.returns-in-Ok
returns-in-Ok c =
    shows_cert c.args.search.now c.in-Ok.tree c.in-Ok.ensures.made c.in-Ok.ensures.accepted (statement_of c.args.statement.now) c.cert_of.result c.cert_of.ensures.tree c.args.end c.requires
    c.cert_of.ensures.claimed

pub returns-in-Err-TooLong : goal.returns-in-Err-TooLong
returns-in-Err-TooLong c = shows_limit c.args.search.now c.in-Err-TooLong.weight (rw c.in-Err-TooLong.field-0-is at c.in-Err-TooLong.ensures.made) (statement_of c.args.statement.now) c.args.end c.requires
