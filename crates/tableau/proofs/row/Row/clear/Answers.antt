use Rattle.std.proofs.Common.{◌∙◌, sym, ap, length, replicate}
use Rattle.fractions.specs.Rational.{zero_ℚ}
use Rattle.tableau.proofs.Spread.{spread_none, length-spread}
use Rattle.tableau.proofs.row.Row.clear.Goals as goal

pub returns : goal.returns
returns c =
    let i = c.self.inside in
    spread_none i.columns c.clear.new.self.items c.zero-self-inside.result c.clear.ensures.items c.zero-self-inside.ensures
    ∙ ap (λ n. replicate n zero_ℚ) (sym (length-spread i.rest i.columns i.kept.items) ∙ ap length c.self.view_is)
