use Rattle.frac128.proofs.ValueOrder.{above_zero}
use Rattle.frac128.proofs.number.Frac.is_positive.Goals as goal

pub returns : goal.returns
returns c =
    let i = above_zero c.self.inside.parts c.self.invariant.reduced.positive in
    rw (← c.self.view_is) (λ e. i.1 (c.is_positive.ensures.0 e), λ h. c.is_positive.ensures.1 (i.0 h))
