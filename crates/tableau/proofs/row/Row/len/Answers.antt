use Rattle.std.proofs.Common.{◌≡◌, ◌∙◌, suc, sym, ap, length, arith}
use Rattle.tableau.proofs.Spread.{length-spread}
use Rattle.tableau.proofs.row.Row.len.Goals as goal

pub returns : goal.returns
returns c =
    let i = c.self.inside in
    let e : suc i.columns ≡ length c.args.self.now = sym (length-spread i.rest i.columns i.kept.items) ∙ ap length c.self.view_is in
    omega arith
