use Rattle.fractions.specs.Rational.{neg_ℚ}
use Rattle.sheet_model.proofs.Calculated.{sum-told}
use Rattle.sheet_model.proofs.arithmetic.difference.Goals as goal

pub returns : goal.returns
returns c = rw c.number.ensures (sum-told c.args.x (neg_ℚ c.args.y) c.sub.result c.sub.ensures)
