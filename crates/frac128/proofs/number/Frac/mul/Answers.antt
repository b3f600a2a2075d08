use Rattle.std.proofs.Common.{refl}
use Rattle.frac128.proofs.Values.{product_value, narrow_product}
use Rattle.frac128.proofs.number.Frac.mul.Goals as goal

pub returns-in-Ok : goal.returns-in-Ok
returns-in-Ok c =
    let e = c.in-Ok.ensures in
    rw (← c.self.view_is, ← c.other.view_is) (
      product_value _ _ _ e.value.0 c.self.invariant c.other.invariant.reduced.positive e.value.1,
      (narrow_product _ _ c.self.invariant c.other.invariant).0 (c.in-Ok.parts, e.value.0, e.value.1),
    )

pub returns-in-Err : goal.returns-in-Err
returns-in-Err c =
    rw (← c.self.view_is, ← c.other.view_is) (λ n. c.in-Err.ensures.wide.0 refl ((narrow_product _ _ c.self.invariant c.other.invariant).1 n))
