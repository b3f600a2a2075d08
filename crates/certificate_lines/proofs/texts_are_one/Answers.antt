use Rattle.certificate_lines.proofs.Texts.{texts_are_one}
use Rattle.certificate_lines.proofs.texts_are_one.Goals as goal

pub returns : goal.returns
returns c = texts_are_one
