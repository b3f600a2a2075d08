use Rattle.std.proofs.Common.{◌≡◌, ◌+◌, ◌-◌, ◌%◌, ◌^◌, sym, ap, ◌∙◌, arith}
use Rattle.std.proofs.lemmas.Grind.{pow_more}
use Rattle.frac128.specs.Printed.{least_places}
use Rattle.frac128.proofs.Printing.{places-found, places-passed, places-none}
use Rattle.frac128.proofs.write.least_places.Goals as goal

pub returns-then-power-den-eq0-clause-places : goal.returns-then-power-den-eq0-clause-places
returns-then-power-den-eq0-clause-places c =
    let k = c.loop-places.places in
    let e : (10 ^ k) % c.args.den ≡ 0 = ap (λ p. p % c.args.den) (sym c.loop-places.invariant.power) ∙ c.if-power-den-eq0.true in
    sym (places-found (19 - k) k c.args.den (omega arith) e) ∙ c.loop-places.invariant.rest

pub loop-places-preserved : goal.loop-places-preserved
loop-places-preserved c =
    let k = c.loop-places.places in
    let next : (19 - k) - 1 ≡ 19 - (k + 1) = omega arith in
    record {
      power = omega (arith, c.loop-places.invariant.power, pow_more 10 k);
      rest = ap (λ n. least_places n (k + 1) c.args.den) (sym next)
          ∙ places-passed (19 - k) k c.args.den (omega arith) (λ e. c.if-power-den-eq0.false (ap (λ p. p % c.args.den) c.loop-places.invariant.power ∙ e))
          ∙ c.loop-places.invariant.rest;
    }

pub returns-clause-places : goal.returns-clause-places
returns-clause-places c =
    let all : 19 - c.loop-places.places ≡ 0 = omega arith in
    sym (places-none c.loop-places.places c.args.den) ∙ ap (λ n. least_places n c.loop-places.places c.args.den) (sym all) ∙ c.loop-places.invariant.rest
