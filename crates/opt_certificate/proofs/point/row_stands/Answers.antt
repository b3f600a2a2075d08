use Rattle.opt_certificate.specs.Rows.{based}
use Rattle.opt_certificate.proofs.Judging.{judged_by}
use Rattle.opt_certificate.proofs.Lookups.{row_yes, row_no}
use Rattle.opt_certificate.proofs.point.row_stands.Goals as goal

pub returns : goal.returns
returns c =
    judged_by c.stands.result (rw c.relation.ensures at c.stands.ensures) (row_yes c.args.row.now.1 (based c.args.with_constant c.args.row.now.0) c.args.point.now c.in_ok-sum.sum c.in_ok-sum.ensures)
    (row_no c.args.row.now.1 (based c.args.with_constant c.args.row.now.0) c.args.point.now c.in_ok-sum.sum c.in_ok-sum.ensures)
