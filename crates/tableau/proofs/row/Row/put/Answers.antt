use Rattle.std.proofs.Common.{◌≡◌, ◌∙◌, suc, sym, ap, length, set, arith}
use Rattle.tableau.proofs.Spread.{length-spread, spread_put}
use Rattle.tableau.proofs.row.Row.put.Goals as goal

pub put-requires-clause-column : goal.put-requires-clause-column
put-requires-clause-column c =
    let i = c.self.inside in
    let e : suc i.columns ≡ length c.args.self.now = sym (length-spread i.rest i.columns i.kept.items) ∙ ap length c.self.view_is in
    omega arith

pub returns : goal.returns
returns c =
    let i = c.self.inside in
    let e : suc i.columns ≡ length c.args.self.now = sym (length-spread i.rest i.columns i.kept.items) ∙ ap length c.self.view_is in
    spread_put i.rest i.columns i.kept.items c.put.new.kept.items c.args.col c.args.number (omega arith) c.put.ensures.entries
    ∙ ap (λ r. set r (suc c.args.col) c.args.number) c.self.view_is
