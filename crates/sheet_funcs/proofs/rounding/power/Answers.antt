use Rattle.calculations.specs.Calculation.{turned_into}
use Rattle.sheet_model.specs.Operators.{raised}
use Rattle.sheet_model.specs.declared.grid.Arg.TheVariants.{One}
use Rattle.sheet_model.proofs.Calculated.{answer-exact}
use Rattle.sheet_funcs.specs.Arguments.{of_two}
use Rattle.sheet_funcs.specs.Rounding.{power_of}
use Rattle.sheet_funcs.proofs.Pairs.{numbers_answer}
use Rattle.sheet_funcs.proofs.rounding.power.Goals as goal

pub returns-in-Ok-Ok-clause-narrow : goal.returns-in-Ok-Ok-clause-narrow
returns-in-Ok-Ok-clause-narrow c =
    numbers_answer (λ x y. turned_into One (raised x y)) c.args.args.now c.base-item.result c.exponent-item.result c.in-Ok-Ok.x c.in-Ok-Ok.y c.power_value.result c.in-len2.len_at_least c.in-len2.len_below
    c.base-item.is c.exponent-item.is c.in-Ok-Ok.ensures c.in-Ok-Ok.ensures' c.power_value.ensures.narrow

pub returns-in-Ok-Ok-clause-exact : goal.returns-in-Ok-Ok-clause-exact
returns-in-Ok-Ok-clause-exact c = answer-exact (of_two power_of c.args.args.now) c.power_value.result (returns-in-Ok-Ok-clause-narrow c)
