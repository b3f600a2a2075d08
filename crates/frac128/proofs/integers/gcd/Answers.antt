use Rattle.frac128.proofs.Divisors.{gcd_of_one, gcd_with_one}
use Rattle.frac128.proofs.integers.gcd.Goals as goal

pub returns-then-a-eq1-clause-gcd : goal.returns-then-a-eq1-clause-gcd
returns-then-a-eq1-clause-gcd c = gcd_of_one _ _ c.if-a-eq1.true

pub returns-then-b-eq1-clause-gcd : goal.returns-then-b-eq1-clause-gcd
returns-then-b-eq1-clause-gcd c = gcd_with_one _ _ c.if-b-eq1.true
