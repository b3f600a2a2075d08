use Rattle.std.proofs.Common.{rules}
use Rattle.sheet_model.proofs.Calculated.{answer-exact}
use Rattle.sheet_funcs.specs.Rounding.{round_of}
use Rattle.sheet_funcs.proofs.rounding.round.Goals as goal

pub returns-in-len2-clause-exact : goal.returns-in-len2-clause-exact
returns-in-len2-clause-exact c = answer-exact (round_of c.args.args.now) c.rounded_value-in-len2.result (search rules)
