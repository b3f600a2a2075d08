use Rattle.std.proofs.Common.{◌≡◌, ◌∙◌, length}
use Rattle.recalc.proofs.Grown.{on_ok}
use Rattle.recalc.proofs.Tables.{put_in, still_table}
use Rattle.recalc.proofs.values.Values.put.Goals as goal

pub returns-clause-table : goal.returns-clause-table
returns-clause-table c =
    let at_end : c.in-Ok.place ≡ length c.args.self.now.known.items = c.in-Ok.ensures.1 ∙ c.len.ensures ∙ c.args.self.now.known.ok.0 in
    on_ok c.put.result c.put.ensures (still_table c.args.self.now (record { places = c.put.new.self; known = c.push.new.self }) c.args.cell c.args.known c.in-Ok.place c.requires at_end c.in_ok-push.ensures.items)

pub returns-clause-put : goal.returns-clause-put
returns-clause-put c =
    let at_end : c.in-Ok.place ≡ length c.args.self.now.known.items = c.in-Ok.ensures.1 ∙ c.len.ensures ∙ c.args.self.now.known.ok.0 in
    on_ok c.put.result c.put.ensures (put_in c.args.self.now (record { places = c.put.new.self; known = c.push.new.self }) c.args.cell c.args.known c.in-Ok.place c.requires at_end c.in_ok-push.ensures.items)
