use Rattle.std.proofs.Common.{◌∙◌, sym, ap}
use Rattle.fractions.specs.Vectors.{at}
use Rattle.tableau.proofs.Spread.{rest-spread}
use Rattle.tableau.proofs.row.Row.rest.Goals as goal

pub returns : goal.returns
returns c =
    let i = c.self.inside in
    sym (rest-spread i.rest i.columns i.kept.items) ∙ ap (λ r. at r 0) c.self.view_is
