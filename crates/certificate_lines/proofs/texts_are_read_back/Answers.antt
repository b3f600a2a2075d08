use Rattle.certificate_lines.proofs.Heads.{texts_are_read_back}
use Rattle.certificate_lines.proofs.texts_are_read_back.Goals as goal

pub returns : goal.returns
returns c = texts_are_read_back
