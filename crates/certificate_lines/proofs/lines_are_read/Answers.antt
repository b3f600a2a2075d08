use Rattle.certificate_lines.proofs.Beginnings.{lines_are_read}
use Rattle.certificate_lines.proofs.lines_are_read.Goals as goal

pub returns : goal.returns
returns c = lines_are_read
