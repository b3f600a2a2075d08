use Rattle.std.proofs.Common.{arith}
use Rattle.linear_models.specs.Box.{Box}
use Rattle.search_paths.specs.Walks.{box_of, with_bound}
use Rattle.search_paths.proofs.Walking.{box_after, none_left, of_led, undo_led}
use Rattle.search_paths.proofs.walk.undo.Goals as goal

pub returns-in-Some-clause-led : goal.returns-in-Some-clause-led
returns-in-Some-clause-led c = λ path h.
    let w = c.args.walk.now in
    let p = c.args.part.now in
    let a = c.deref_mut.ensures.len in
    let b = c.restore.auto.least in
    let d = c.deref_mut-in-Some.ensures.len in
    let e = c.restore.auto.greatest in
    let box = box_after w.least w.greatest _ _ c.restore.new.least c.restore.new.greatest (λ (x : Box). with_bound x p c.in-Some.bound) c.deref_mut.ensures.value c.deref_mut-in-Some.ensures.value
    (omega (arith, a, b)) (omega (arith, d, e)) c.restore.ensures in
    let led = undo_led w.root (box_of w) _ w.replaced.items c.pop.new.self.items c.in-Some.bound path p (of_led _ w h) c.in-Some.ensures.items box in
    record { box = led.box; replaced = led.replaced }

pub returns-in_default-clause-led : goal.returns-in_default-clause-led
returns-in_default-clause-led c = λ path h.
    let w = c.args.walk.now in
    let k = w.replaced.ok.0 in
    let z = c.in_default.ensures.cases.0 in
    absurd (none_left w.root (box_of w) path c.args.part.now w.replaced.items (of_led _ w h) (omega (arith, k, z)))
