use Rattle.opt_certificate.proofs.Judging.{judged_by, negative_yes, negative_no}
use Rattle.opt_certificate.proofs.leaf.bound_is_negative.Goals as goal

pub returns : goal.returns
returns c =
    let e = rw c.rows.ensures.value at c.in_ok-bound.ensures in
    judged_by c.is_negative.result c.is_negative.ensures (negative_yes c.args.multipliers.now c.args.program.now c.in_ok-bound.bound e) (negative_no c.args.multipliers.now c.args.program.now c.in_ok-bound.bound e)
