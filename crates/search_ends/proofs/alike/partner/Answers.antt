use Rattle.std.proofs.Common.{◌≡◌, ◌∙◌, arith, sym}
use Rattle.std.proofs.lemmas.List.{get_or_default}
use Rattle.fractions.specs.Rational.{zero_ℚ}
use Rattle.fractions.specs.Vectors.{at}
use Rattle.frac128.proofs.NarrowLaws.{same_if_equal}
use Rattle.search_ends.proofs.Pairs.{first_partner, no_partner}
use Rattle.search_ends.proofs.alike.partner.Goals as goal

pub returns-then-is_in : goal.returns-then-is_in
returns-then-is_in c =
    let x = c.args.point.now in
    let k = c.loop-other.other in
    let one : c.index-point-one.result ≡ at x c.args.one = c.index-point-one.is ∙ get_or_default x c.args.one c.index-point-one.result zero_ℚ c.requires.within in
    let other : c.index-point-other.result ≡ at x k = c.index-point-other.is ∙ get_or_default x k c.index-point-other.result zero_ℚ c.loop-other-test.true in
    let same : c.index-point-other.result ≡ c.index-point-one.result = (same_if_equal c.index-point-other.result c.index-point-one.result).0 (sym c.eq.ensures ∙ c.if-eq.true) in
    (first_partner x c.args.group.now c.args.one k c.requires.member (sym c.is_in.ensures ∙ c.if-is_in.true) (omega arith) (sym one ∙ sym same ∙ other) c.loop-other.invariant, c.loop-other-test.true)

pub returns : goal.returns
returns c = no_partner c.args.point.now c.args.group.now _ c.args.one c.requires.below (λ j l. c.loop-other.invariant j (omega (arith, l, c.loop-other-test.false)))
