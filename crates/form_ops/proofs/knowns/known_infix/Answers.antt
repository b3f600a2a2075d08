use Rattle.sheet_model.specs.Operators.{infix_value}
use Rattle.form_ops.proofs.Answering.{known_answers}
use Rattle.form_ops.proofs.knowns.known_infix.Goals as goal

pub returns : goal.returns
returns c =
    rw (c.as_known.ensures, ← c.in_ok-copy.ensures, ← c.in_ok-copy-2.ensures)
    (known_answers (infix_value c.args.op c.in_ok-copy.field-0 c.in_ok-copy-2.field-0) c.infix.result c.infix.ensures.narrow)
