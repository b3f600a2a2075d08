use Rattle.certificate_lines.proofs.Stops.{reading_is_right}
use Rattle.certificate_lines.proofs.reading_is_right.Goals as goal

pub returns : goal.returns
returns c = reading_is_right
