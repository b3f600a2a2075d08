use Rattle.std.proofs.Common.{arith, ap, ap₂, ◌∙◌, List, [], ◌∷◌, ◌++◌}
use Rattle.std.specs.Prelude.{Option}
use Rattle.fractions.specs.Rational.{ℚ}
use Rattle.linear_models.specs.Box.{Box}
use Rattle.searches.specs.Trees.{part_of}
use Rattle.search_paths.specs.Walks.{bound_in, box_of}
use Rattle.search_paths.proofs.Walking.{box_after, made, make_led, of_led}
use Rattle.search_paths.proofs.walk.make.Goals as goal

pub returns-clause-led : goal.returns-clause-led
returns-clause-led c = λ path h.
    let w = c.args.walk.now in
    let p = c.args.part.now in
    let a = c.deref_mut.ensures.len in
    let b = c.narrow.auto.least in
    let d = c.deref_mut-2.ensures.len in
    let e = c.narrow.auto.greatest in
    let box = box_after w.least w.greatest _ _ c.narrow.new.least c.narrow.new.greatest (λ (x : Box). part_of x p) c.deref_mut.ensures.value c.deref_mut-2.ensures.value
    (omega (arith, a, b)) (omega (arith, d, e)) c.narrow.ensures in
    let led = make_led w.root (box_of w) _ w.replaced.items c.push_reserved.new.self.items c.bound_in-before.result path p (of_led _ w h)
    (c.push_reserved.ensures.items ∙ ap (λ (bs : List (Option ℚ)). bs ++ c.bound_in-before.result ∷ []) c.reserve.ensures.items)
    (c.bound_in-before.ensures ∙ ap₂ (λ (xs ys : List (Option ℚ)). bound_in (made xs ys) p) c.deref.ensures.value c.deref-2.ensures.value) box in
    record { box = led.box; replaced = led.replaced }
