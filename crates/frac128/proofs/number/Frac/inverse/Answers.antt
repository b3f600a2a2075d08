use Rattle.frac128.proofs.Values.{not_zero, reciprocal_value}
use Rattle.frac128.proofs.number.Frac.inverse.Goals as goal

pub reciprocal-requires : goal.reciprocal-requires
reciprocal-requires c = not_zero _ c.self.invariant (rw (← c.self.view_is) at c.requires)

pub returns : goal.returns
returns c = rw (← c.self.view_is, c.reciprocal.ensures) (reciprocal_value _ c.self.invariant (not_zero _ c.self.invariant (rw (← c.self.view_is) at c.requires)))
