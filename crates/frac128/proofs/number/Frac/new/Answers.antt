use Rattle.std.proofs.Common.{refl}
use Rattle.std.specs.Int.{w128}
use Rattle.std.proofs.lemmas.Int.{to_z-of_z}
use Rattle.std.proofs.lemmas.Bool.{false≢true}
use Rattle.frac128.proofs.Quotients.{quotient_made, quotient_refused}
use Rattle.frac128.proofs.number.Frac.new.Goals as goal

pub returns-in-Some : goal.returns-in-Some
returns-in-Some c =
    let e = rw (to_z-of_z w128 c.args.n c.ranges.n, to_z-of_z w128 c.args.d c.ranges.d) at c.in-Some.ensures in
    let other = (e.made.0 refl).0 in
    (other, quotient_made _ _ _ other e.value.0 e.value.1)

pub returns-in-None : goal.returns-in-None
returns-in-None c =
    let e = rw (to_z-of_z w128 c.args.n c.ranges.n, to_z-of_z w128 c.args.d c.ranges.d) at c.in-None.ensures in
    quotient_refused c.args.n c.args.d (λ h. false≢true (e.made.1 h))
