use Rattle.std.proofs.Common.{rules}
use Rattle.sheet_model.proofs.Calculated.{answer-exact}
use Rattle.sheet_funcs.specs.Arguments.{of_two}
use Rattle.sheet_funcs.specs.Rounding.{mod_of}
use Rattle.sheet_funcs.proofs.rounding.mod_.Goals as goal

pub returns-in-Ok-Ok-clause-exact : goal.returns-in-Ok-Ok-clause-exact
returns-in-Ok-Ok-clause-exact c = answer-exact (of_two mod_of c.args.args.now) c.remainder.result (search rules)
