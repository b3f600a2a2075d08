use Rattle.std.proofs.Common.{ap, ◌∙◌, ◌*◌}
use Rattle.std.specs.Prelude.{unsigned_abs}
use Rattle.std.specs.Ordering.{nat_cmp}
use Rattle.frac128.proofs.Orders.{order_up, order_down}
use Rattle.frac128.proofs.Readings.{back}
use Rattle.frac128.proofs.parts.Parts.compare.Goals as goal

pub returns-in-true-true : goal.returns-in-true-true
returns-in-true-true c =
    let x = back c.self.inside.num c.self.invariant.num in
    let y = back c.other.inside.num c.other.invariant.num in
    let m = c.unsigned_abs-left.ensures.value ∙ ap unsigned_abs x in
    let n = c.unsigned_abs-right.ensures.value ∙ ap unsigned_abs y in
    rw (← c.self.view_is, ← c.other.view_is)
    (order_down _ _ _ c.self.invariant.reduced c.other.invariant.reduced (rw x at c.in-true-true.is-0) (rw y at c.in-true-true.is-1)
    (c.compare_products.ensures ∙ (λ i. nat_cmp (n i * c.self.inside.den) (m i * c.other.inside.den))))

pub returns-in-false-false : goal.returns-in-false-false
returns-in-false-false c =
    let x = back c.self.inside.num c.self.invariant.num in
    let y = back c.other.inside.num c.other.invariant.num in
    let m = c.unsigned_abs-left.ensures.value ∙ ap unsigned_abs x in
    let n = c.unsigned_abs-right.ensures.value ∙ ap unsigned_abs y in
    rw (← c.self.view_is, ← c.other.view_is)
    (order_up _ _ _ c.self.invariant.reduced c.other.invariant.reduced (rw x at c.in-false-false.is-0) (rw y at c.in-false-false.is-1)
    (c.compare_products-in-false-false.ensures ∙ (λ i. nat_cmp (m i * c.other.inside.den) (n i * c.self.inside.den))))
