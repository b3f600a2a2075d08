use Rattle.std.proofs.Common.{◌∙◌, ap, sym, Some}
use Rattle.std.specs.Option.{option_map}
use Rattle.sheet_model.specs.declared.grid.Arg.TheVariants.{One}
use Rattle.sheet_model.specs.declared.value.Value.TheVariants.{Number}
use Rattle.sheet_funcs.proofs.Tallying.{sum_is}
use Rattle.sheet_funcs.proofs.sums.sum_answer.Goals as goal

pub returns-in-Ok-Some-clause-answer : goal.returns-in-Ok-Some-clause-answer
returns-in-Ok-Some-clause-answer c = λ numbers is.
    sum_is numbers c.in-Ok-Some.field-0 (sym c.in-Ok-Some.is ∙ is) ∙ ap (option_map (λ x. One (Number x))) (rw c.in-Ok-Some.is at c.in-Ok-Some.field-0-is) ∙ ap Some (sym c.number.ensures)

pub returns-in-Ok-None-clause-answer : goal.returns-in-Ok-None-clause-answer
returns-in-Ok-None-clause-answer c = λ numbers is. sum_is numbers c.in-Ok-None.field-0 (sym c.in-Ok-None.is ∙ is) ∙ ap (option_map (λ x. One (Number x))) (rw c.in-Ok-None.is at c.in-Ok-None.field-0-is)
