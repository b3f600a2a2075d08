use Rattle.sheet_model.specs.Operators.{minus_value}
use Rattle.form_ops.proofs.Answering.{known_answers}
use Rattle.form_ops.proofs.knowns.known_minus.Goals as goal

pub returns : goal.returns
returns c = rw (c.as_known.ensures, ← c.in_ok-copy.ensures) (known_answers (minus_value c.in_ok-copy.field-0) c.minus.result c.minus.ensures.narrow)
