use Rattle.frac128.proofs.Values.{neg_value}
use Rattle.frac128.proofs.number.Frac.neg.Goals as goal

pub returns : goal.returns
returns c = rw (← c.self.view_is, c.neg.ensures) (neg_value _ c.self.invariant)
