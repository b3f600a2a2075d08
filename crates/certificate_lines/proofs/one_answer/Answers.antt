use Rattle.certificate_lines.proofs.Heads.{one_answer}
use Rattle.certificate_lines.proofs.one_answer.Goals as goal

pub returns : goal.returns
returns c = one_answer
