use Rattle.form_ops.proofs.Truth.{infix_true}
use Rattle.form_ops.proofs.operators.infix.Goals as goal

pub returns-clause-right : goal.returns-clause-right
returns-clause-right c = infix_true c.args.op c.args.a.now c.args.b.now c.lifted_infix.result c.lifted_infix.ensures
