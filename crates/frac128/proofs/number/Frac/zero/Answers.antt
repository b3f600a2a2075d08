use Rattle.std.proofs.Common.{refl, lit<, pos}
use Rattle.fractions.specs.Rational.{computed}
use Rattle.frac128.proofs.Readings.{narrow_over_one}
use Rattle.frac128.proofs.number.Frac.zero.Goals as goal

pub returns : goal.returns
unfolding computed
returns c = refl

pub invariant_of-parts : goal.invariant_of-parts
invariant_of-parts c = narrow_over_one (pos 0) (lit< tt)
