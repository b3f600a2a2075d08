use Rattle.frac128.proofs.Values.{num_back, den_back}
use Rattle.frac128.proofs.number.FracPartialEq.eq.Goals as goal

pub returns : goal.returns
returns c =
    let p = c.t1-1.invariant.reduced in
    let q = c.t2-1.invariant.reduced in
    rw (← c.t1-1.view_is, ← c.t2-1.view_is, num_back _ p, num_back _ q, den_back _ p, den_back _ q) c.eq.ensures
