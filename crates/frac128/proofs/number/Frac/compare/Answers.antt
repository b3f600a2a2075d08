use Rattle.frac128.proofs.ValueOrder.{order_of}
use Rattle.frac128.proofs.number.Frac.compare.Goals as goal

pub returns : goal.returns
returns c = rw (← c.self.view_is, ← c.other.view_is) (order_of _ _ _ c.self.invariant c.other.invariant c.compare.ensures)
