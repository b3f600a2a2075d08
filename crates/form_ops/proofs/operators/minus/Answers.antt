use Rattle.std.proofs.Common.{rules}
use Rattle.form_table.specs.Operators.{minus_abs}
use Rattle.form_ops.proofs.Truth.{minus_true}
use Rattle.form_ops.proofs.operators.minus.Goals as goal

pub returns-clause-answer : goal.returns-clause-answer
returns-clause-answer c = c.on_each.ensures minus_abs (λ x r called. search rules)

pub returns-clause-right : goal.returns-clause-right
returns-clause-right c = minus_true c.args.a.now c.on_each.result (c.on_each.ensures minus_abs (λ x r called. search rules))
