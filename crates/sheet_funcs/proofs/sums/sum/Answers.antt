use Rattle.std.proofs.Common.{◌∙◌, ap, Some}
use Rattle.sheet_model.proofs.Calculated.{answer-exact}
use Rattle.sheet_funcs.specs.Items.{numbers_of}
use Rattle.sheet_funcs.specs.Sums.{sum_of}
use Rattle.sheet_funcs.specs.Tallies.{tally_or_error}
use Rattle.sheet_funcs.specs.declared.tally.Tally.TheVariants.{Total}
use Rattle.sheet_funcs.proofs.sums.sum.Goals as goal

pub returns-clause-narrow : goal.returns-clause-narrow
returns-clause-narrow c =
    c.sum_answer.ensures.answer (numbers_of c.args.args.now) (c.of_args.ensures ∙ ap (λ x. tally_or_error Total (Some x) (numbers_of c.args.args.now)) c.zero.ensures)

pub returns-clause-exact : goal.returns-clause-exact
returns-clause-exact c = answer-exact (sum_of c.args.args.now) c.sum_answer.result (returns-clause-narrow c)
