use Rattle.frac128.proofs.Readings.{back}
use Rattle.frac128.proofs.Results.{wide_along}
use Rattle.frac128.proofs.OverOne.{narrow_product_over_one}
use Rattle.frac128.proofs.parts.Parts.mul.Goals as goal

pub returns-then-other-eq1-clause-wide : goal.returns-then-other-eq1-clause-wide
returns-then-other-eq1-clause-wide c =
    let i = narrow_product_over_one _ _ c.self.invariant c.other.invariant c.if-self-eq1.true c.if-other-eq1.true in
    rw (← c.self.view_is, ← c.other.view_is) (wide_along _ _ _ i c.mul_whole.result (rw (back _ c.self.invariant.num, back _ c.other.invariant.num) at c.mul_whole.ensures))
