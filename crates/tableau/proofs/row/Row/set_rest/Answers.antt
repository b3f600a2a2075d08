use Rattle.std.proofs.Common.{◌∙◌, ap, set}
use Rattle.tableau.proofs.Spread.{spread_rest}
use Rattle.tableau.proofs.row.Row.set_rest.Goals as goal

pub returns : goal.returns
returns c =
    let i = c.self.inside in
    spread_rest i.rest c.args.number i.columns i.kept.items ∙ ap (λ r. set r 0 c.args.number) c.self.view_is
