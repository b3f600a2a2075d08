use Rattle.sheet_model.specs.Operators.{minus_of}
use Rattle.evaluation.proofs.operators.minus_outcome.Goals as goal

pub returns-in-Some : goal.returns-in-Some
returns-in-Some c = rw c.in-Some.is (c.narrow_answer.ensures (minus_of c.in-Some.value) c.minus.ensures.narrow)
