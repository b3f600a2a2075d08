use Rattle.std.proofs.Common.{◌≡◌, ◌∙◌, ap, sym, arith, of_z, to_z}
use Rattle.std.proofs.lemmas.Int.{ints}
use mir.Syntax.{w128}
use Rattle.fractions.specs.Whole.{whole_ℚ}
use Rattle.sheet_funcs.proofs.Means.{mean_answers}
use Rattle.sheet_funcs.proofs.Numbers.{whole-ne-zero}
use Rattle.sheet_funcs.proofs.sums.mean.Goals as goal

pub divide-requires : goal.divide-requires
divide-requires c h =
    let same : to_z w128 (of_z w128 c.args.count) ≡ c.args.count = omega (arith, ints) in
    whole-ne-zero c.args.count (λ e. c.if-count-eq0.false (ap (of_z w128) e)) (ap whole_ℚ (sym same) ∙ sym c.whole.ensures ∙ h)

pub returns-clause-answer : goal.returns-clause-answer
returns-clause-answer c = λ xs narrow many.
    let same : to_z w128 (of_z w128 c.args.count) ≡ c.args.count = omega (arith, ints) in
    mean_answers xs c.args.sum c.whole.result c.divide.result c.number_answer.result (λ e. c.if-count-eq0.false (ap (of_z w128) (many ∙ e))) (c.whole.ensures ∙ ap whole_ℚ (same ∙ many)) narrow c.divide.ensures c.number_answer.ensures.answer
