use Rattle.std.proofs.Common.{◌∙◌, ap}
use Rattle.model_prices.specs.Prices.{turned}
use Rattle.sensitivity.proofs.OwnRows.{row_is}
use Rattle.sensitivity.proofs.row_prices.price_of_row.Goals as goal

pub returns : goal.returns
returns c =
    row_is c.args.of.now c.args.dict.now c.args.place _ c.args.multipliers.now c.args.first c.args.slack c.number_at.result c.number_at-2.result c.in_ok-sum.sum c.in_model.result
    c.in_ok-ends.ends.low c.in_ok-ends.ends.high c.requires.place c.requires.multipliers c.requires.first c.requires.slack c.relation_of_row-relation.ensures c.number_at.ensures c.number_at-2.ensures
    c.in_ok-sum.ensures.0 c.in_ok-sum.ensures.1 (c.in_model.ensures ∙ ap (λ g. turned g c.in_ok-sum.sum) c.goal.ensures) c.in_ok-ends.ensures.0 c.in_ok-ends.ensures.1 c.in_ok-ends.ensures.2
