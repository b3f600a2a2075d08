use Rattle.frac128.proofs.Readings.{back, narrow_over_one}
use Rattle.frac128.proofs.parts.Parts.mul_whole.Goals as goal

pub invariant_of-result : goal.invariant_of-result
invariant_of-result c = rw (back c.in_ok-num.num c.in_ok-num.ensures.1) (narrow_over_one _ c.in_ok-num.ensures.1)
