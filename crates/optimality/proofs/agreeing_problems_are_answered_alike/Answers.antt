use Rattle.optimality.proofs.SameAnswers.{same_answers_hold}
use Rattle.optimality.proofs.agreeing_problems_are_answered_alike.Goals as goal

pub returns : goal.returns
returns c = same_answers_hold
