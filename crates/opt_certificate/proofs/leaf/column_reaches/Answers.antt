use Rattle.opt_certificate.specs.Rows.{floor_of}
use Rattle.opt_certificate.proofs.Judging.{judged_unless, column_no, column_yes}
use Rattle.opt_certificate.proofs.leaf.column_reaches.Goals as goal

pub returns : goal.returns
returns c =
    let e = rw c.rows.ensures.value at c.in_ok-sum.ensures in
    let floor = floor_of c.args.plain c.args.program.now c.args.column in
    judged_unless c.is_below.result (rw c.floor_of-floor.ensures at c.is_below.ensures) (column_yes c.args.column c.args.multipliers.now c.args.program.now.rows c.in_ok-sum.sum floor e)
    (column_no c.args.column c.args.multipliers.now c.args.program.now.rows c.in_ok-sum.sum floor e)
