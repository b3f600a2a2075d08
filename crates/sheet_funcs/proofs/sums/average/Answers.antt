use Rattle.std.proofs.Common.{◌≡◌, ◌∙◌, ap, sym, subst, arith, pos, Some, of_z, to_z}
use Rattle.std.proofs.lemmas.Int.{ints}
use mir.Syntax.{w128}
use Rattle.std.specs.Prelude.{flat_map}
use Rattle.sheet_model.specs.Answers.{Answers}
use Rattle.sheet_model.proofs.Calculated.{answer-exact}
use Rattle.sheet_funcs.specs.Arguments.{on_ok}
use Rattle.sheet_funcs.specs.Items.{items_in, numbers_of}
use Rattle.sheet_funcs.specs.Sums.{average_of, mean}
use Rattle.sheet_funcs.specs.Tallies.{tally_or_error}
use Rattle.sheet_funcs.specs.declared.tally.Tally.TheVariants.{Total}
use Rattle.sheet_funcs.proofs.Tallying.{all_lengths, mean_none, summed_numbers}
use Rattle.sheet_funcs.proofs.sums.average.Goals as goal

pub returns-in-Ok-Some-clause-narrow : goal.returns-in-Ok-Some-clause-narrow
returns-in-Ok-Some-clause-narrow c =
    let all = numbers_of c.args.args.now in
    let numbers = summed_numbers all (Some c.in-Ok-Some.sum) ((rw c.in-Ok-Some.field-0-is at c.in-Ok-Some.ensures) ∙ ap (λ x. tally_or_error Total (Some x) all) c.zero.ensures) in
    let same : to_z w128 (of_z w128 c.count_items.result) ≡ c.count_items.result = omega (arith, ints) in
    subst (λ r. Answers (on_ok r mean) c.mean.result) (sym numbers.1.0)
    (c.mean.ensures.answer numbers.0 numbers.1.1 (same ∙ c.count_items.ensures.count ∙ ap pos (all_lengths (flat_map items_in c.args.args.now) numbers.0 numbers.1.0)))

pub returns-in-Ok-Some-clause-exact : goal.returns-in-Ok-Some-clause-exact
returns-in-Ok-Some-clause-exact c = answer-exact (average_of c.args.args.now) c.mean.result (returns-in-Ok-Some-clause-narrow c)

pub returns-in-Ok-None-clause-narrow : goal.returns-in-Ok-None-clause-narrow
returns-in-Ok-None-clause-narrow c =
    mean_none (numbers_of c.args.args.now) ((rw c.in-Ok-None.field-0-is at c.in-Ok-None.ensures) ∙ ap (λ x. tally_or_error Total (Some x) (numbers_of c.args.args.now)) c.zero.ensures)
