use Rattle.frac128.proofs.ValueOrder.{same_zero}
use Rattle.frac128.proofs.number.Frac.is_zero.Goals as goal

pub returns : goal.returns
returns c =
    let i = same_zero c.self.inside.parts c.self.invariant.reduced.positive in
    rw (← c.self.view_is) (λ e. i.1 (c.is_zero.ensures.0 e), λ h. c.is_zero.ensures.1 (i.0 h))
