use Rattle.frac128.proofs.Values.{den_back}
use Rattle.frac128.proofs.number.Frac.is_whole.Goals as goal

pub returns : goal.returns
returns c = rw (← c.self.view_is, den_back _ c.self.invariant.reduced) c.is_whole.ensures
