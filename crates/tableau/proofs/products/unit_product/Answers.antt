use Rattle.std.proofs.Common.{sym, ◌∙◌}
use Rattle.tableau.proofs.Units.{times_one, times_minus_one}
use Rattle.tableau.proofs.products.unit_product.Goals as goal

pub returns-then-is_one : goal.returns-then-is_one
returns-then-is_one c = (times_one c.args.factor c.args.number (c.is_one.ensures.0 c.if-is_one.true), c.num-num.ensures.narrow)

pub returns-then-is_one-2 : goal.returns-then-is_one-2
returns-then-is_one-2 c = (
  times_minus_one c.args.factor c.args.number c.neg-turned.result (sym c.neg.ensures ∙ c.is_one-2.ensures.0 c.if-is_one-2.true) c.neg-turned.ensures,
  c.num-num-then-is_one-2.ensures.narrow,
)
