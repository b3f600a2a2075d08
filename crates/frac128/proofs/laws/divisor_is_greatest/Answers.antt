use Rattle.fractions.proofs.Gcd.{gcd_is}
use Rattle.frac128.proofs.laws.divisor_is_greatest.Goals as goal

pub returns : goal.returns
returns c = gcd_is
