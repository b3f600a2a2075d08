use Rattle.sheet_model.specs.Operators.{percent_value}
use Rattle.form_ops.proofs.Answering.{known_answers}
use Rattle.form_ops.proofs.knowns.known_percent.Goals as goal

pub returns : goal.returns
returns c = rw (c.as_known.ensures, ← c.in_ok-copy.ensures) (known_answers (percent_value c.in_ok-copy.field-0) c.percent.result c.percent.ensures.narrow)
