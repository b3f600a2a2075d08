use Rattle.lin_model.proofs.FitRows.{failed}
use Rattle.lin_model.proofs.fitting.row_fits.Goals as goal

pub returns-then-not-is_own : goal.returns-then-not-is_own
returns-then-not-is_own c = failed c.is_own.result c.is_own.ensures c.if-not-is_own.true (λ p right. p.0)

pub returns-then-not-reaches_to : goal.returns-then-not-reaches_to
returns-then-not-reaches_to c = failed c.reaches_to.result c.reaches_to.ensures c.if-not-reaches_to.true (λ p. p.1.left)

pub returns : goal.returns
returns c = (
  λ t. (c.is_own.ensures.0 c.if-not-is_own.false c.args.sides.now.1, record { left = c.reaches_to.ensures.0 c.if-not-reaches_to.false; right = c.reaches_to-2.ensures.0 t }),
  λ p. c.reaches_to-2.ensures.1 p.1.right,
)
