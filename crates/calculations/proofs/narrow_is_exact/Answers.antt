use Rattle.calculations.proofs.CalculationLaws.{narrow-exact}
use Rattle.calculations.proofs.narrow_is_exact.Goals as goal

pub returns : goal.returns
returns t c = narrow-exact
