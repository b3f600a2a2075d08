use Rattle.std.proofs.Common.{rules}
use Rattle.sheet_model.specs.Operators.{minus_of, minus_value}
use Rattle.sheet_model.proofs.Calculated.{answer-exact}
use Rattle.sheet_model.proofs.operators.minus.Goals as goal

pub returns-clause-exact : goal.returns-clause-exact
returns-clause-exact c = answer-exact (minus_of c.args.a.now) c.on_each.result (c.on_each.ensures minus_value (λ x r called. search rules))
