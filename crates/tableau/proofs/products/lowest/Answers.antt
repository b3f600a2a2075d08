use Rattle.tableau.proofs.Words.{whole_over_one}
use Rattle.tableau.proofs.products.lowest.Goals as goal

pub returns-then-d-eq1 : goal.returns-then-d-eq1
returns-then-d-eq1 c = whole_over_one c.args.n c.args.d c.from_whole.result c.ranges.n c.ranges.d c.if-d-eq1.true c.from_whole.ensures
