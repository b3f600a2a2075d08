use Rattle.optimality.proofs.Answers.{answers_exclude}
use Rattle.optimality.proofs.answers_exclude_each_other.Goals as goal

pub returns : goal.returns
returns c = answers_exclude
