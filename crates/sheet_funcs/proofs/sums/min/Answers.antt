use Rattle.std.proofs.Common.{◌∙◌, ap, sym, Some}
use Rattle.calculations.specs.Calculation.{exact, narrow}
use Rattle.sheet_model.specs.declared.grid.Arg.TheVariants.{One}
use Rattle.sheet_model.specs.declared.value.Value.TheVariants.{Number}
use Rattle.sheet_funcs.specs.Items.{numbers_of}
use Rattle.sheet_funcs.proofs.Tallying.{least_none, least_some}
use Rattle.sheet_funcs.proofs.sums.min.Goals as goal

pub returns-in-Ok-Some-clause-narrow : goal.returns-in-Ok-Some-clause-narrow
returns-in-Ok-Some-clause-narrow c = ap narrow (least_some (numbers_of c.args.args.now) c.in-Ok-Some.least (rw c.in-Ok-Some.field-0-is at c.in-Ok-Some.ensures)) ∙ ap Some (sym c.number.ensures)

pub returns-in-Ok-Some-clause-exact : goal.returns-in-Ok-Some-clause-exact
returns-in-Ok-Some-clause-exact c = c.number.ensures ∙ sym (ap exact (least_some (numbers_of c.args.args.now) c.in-Ok-Some.least (rw c.in-Ok-Some.field-0-is at c.in-Ok-Some.ensures)))

pub returns-in-Ok-None-clause-narrow : goal.returns-in-Ok-None-clause-narrow
returns-in-Ok-None-clause-narrow c =
    ap narrow (least_none (numbers_of c.args.args.now) (rw c.in-Ok-None.field-0-is at c.in-Ok-None.ensures)) ∙ ap Some (sym (c.number-in-Ok-None.ensures ∙ ap (λ x. One (Number x)) c.zero.ensures))

pub returns-in-Ok-None-clause-exact : goal.returns-in-Ok-None-clause-exact
returns-in-Ok-None-clause-exact c =
    c.number-in-Ok-None.ensures ∙ ap (λ x. One (Number x)) c.zero.ensures ∙ sym (ap exact (least_none (numbers_of c.args.args.now) (rw c.in-Ok-None.field-0-is at c.in-Ok-None.ensures)))
