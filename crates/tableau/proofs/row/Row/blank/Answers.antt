use Rattle.tableau.proofs.Spread.{spread_none}
use Rattle.tableau.proofs.row.Row.blank.Goals as goal

pub returns : goal.returns
returns c = spread_none c.args.columns c.in_ok-kept.kept.items c.zero.result c.in_ok-kept.ensures.items c.zero.ensures
