use Rattle.certificate_lines.proofs.Heads.{heads_are_read}
use Rattle.certificate_lines.proofs.heads_are_read.Goals as goal

pub returns : goal.returns
returns c = heads_are_read
