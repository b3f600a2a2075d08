use Rattle.std.proofs.Common.{refl, ◌∙◌, ap, subst}
use Rattle.frac128.specs.Pairs.{IsNarrowPair}
use Rattle.frac128.specs.Values.{value}
use Rattle.frac128.proofs.PowerValues.{power_value, narrow_power}
use Rattle.frac128.proofs.number.Frac.power_of_times.Goals as goal

pub returns-in-Ok : goal.returns-in-Ok
returns-in-Ok c =
    let e = c.in-Ok.ensures.value in
    rw (← c.self.view_is) (
      ap value e.1 ∙ power_value _ _ c.self.invariant.reduced.positive,
      (narrow_power _ _ c.self.invariant.reduced).0 (subst IsNarrowPair e.1 e.0),
    )

pub returns-in-Err : goal.returns-in-Err
returns-in-Err c = rw (← c.self.view_is) (λ n. c.in-Err.ensures.wide.0 refl ((narrow_power _ _ c.self.invariant.reduced).1 n))
