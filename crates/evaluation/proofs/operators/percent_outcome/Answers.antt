use Rattle.sheet_model.specs.Operators.{percent_of}
use Rattle.evaluation.proofs.operators.percent_outcome.Goals as goal

pub returns-in-Some : goal.returns-in-Some
returns-in-Some c = rw c.in-Some.is (c.narrow_answer.ensures (percent_of c.in-Some.value) c.percent.ensures.narrow)
