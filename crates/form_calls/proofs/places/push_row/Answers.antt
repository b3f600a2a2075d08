use Rattle.std.proofs.Common.{◌+◌, ◌*◌, arith}
use Rattle.form_calls.proofs.InRows.{range_place_more}
use Rattle.form_calls.proofs.places.push_row.Goals as goal

pub loop-column-preserved : goal.loop-column-preserved
loop-column-preserved c =
    range_place_more (λ column. c.args.row * c.args.columns + column) c.args.to.now.items c.loop-column.to.items c.push.new.self.items c.args.left c.loop-column.column (omega arith) c.loop-column.invariant c.in_ok-push.ensures.items
