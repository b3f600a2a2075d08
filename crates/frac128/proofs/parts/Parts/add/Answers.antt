use Rattle.frac128.proofs.Readings.{back}
use Rattle.frac128.proofs.Results.{ok_along, wide_along}
use Rattle.frac128.proofs.OverOne.{narrow_sum_over_one}
use Rattle.frac128.proofs.parts.Parts.add.Goals as goal

pub returns-then-other-eq1-clause-narrow : goal.returns-then-other-eq1-clause-narrow
returns-then-other-eq1-clause-narrow c =
    let i = narrow_sum_over_one _ _ c.self.invariant c.other.invariant c.if-self-eq1.true c.if-other-eq1.true in
    rw (← c.self.view_is, ← c.other.view_is) (ok_along _ _ _ i.0 c.add_whole.result (rw (back _ c.self.invariant.num, back _ c.other.invariant.num) at c.add_whole.ensures))

pub returns-then-other-eq1-clause-wide : goal.returns-then-other-eq1-clause-wide
returns-then-other-eq1-clause-wide c =
    let i = narrow_sum_over_one _ _ c.self.invariant c.other.invariant c.if-self-eq1.true c.if-other-eq1.true in
    rw (← c.self.view_is, ← c.other.view_is) (wide_along _ _ _ i c.add_whole.result (rw (back _ c.self.invariant.num, back _ c.other.invariant.num) at c.add_whole.ensures))
