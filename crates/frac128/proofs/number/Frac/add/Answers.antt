use Rattle.std.proofs.Common.{refl}
use Rattle.frac128.proofs.Values.{sum_value, narrow_sum}
use Rattle.frac128.proofs.number.Frac.add.Goals as goal

pub returns-in-Ok : goal.returns-in-Ok
returns-in-Ok c =
    let e = c.in-Ok.ensures in
    rw (← c.self.view_is, ← c.other.view_is) (
      sum_value _ _ _ e.value.0 c.self.invariant c.other.invariant e.value.1,
      (narrow_sum _ _ c.self.invariant c.other.invariant).0 e.narrow,
    )

pub returns-in-Err : goal.returns-in-Err
returns-in-Err c =
    rw (← c.self.view_is, ← c.other.view_is) (λ n. c.in-Err.ensures.wide.0 refl ((narrow_sum _ _ c.self.invariant c.other.invariant).1 n))
