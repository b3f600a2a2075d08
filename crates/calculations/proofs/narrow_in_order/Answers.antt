use Rattle.calculations.proofs.CalculationLaws.{narrow-followed_by}
use Rattle.calculations.proofs.narrow_in_order.Goals as goal

pub returns : goal.returns
returns t c = narrow-followed_by
