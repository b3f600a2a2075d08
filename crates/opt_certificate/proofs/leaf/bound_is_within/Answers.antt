use Rattle.std.proofs.lemmas.Result.{err_from_is_err_and}
use Rattle.opt_certificate.proofs.Judging.{judged_unless, whole_no, whole_yes, whole_wide, bound_wide, none_wide}
use Rattle.opt_certificate.specs.Sums.{whole_bound}
use Rattle.opt_certificate.proofs.leaf.bound_is_within.Goals as goal

pub returns-in_err-bound : goal.returns-in_err-bound
returns-in_err-bound c =
    let p = err_from_is_err_and c.from_residual.result c.from_residual.ensures.1 in
    rw p.1 (none_wide (whole_bound c.args.multipliers.now c.args.program.now) (bound_wide c.args.multipliers.now c.args.program.now (rw c.rows.ensures.value at c.in_err-bound.ensures)))

pub returns-in_err-sum : goal.returns-in_err-sum
returns-in_err-sum c =
    let p = err_from_is_err_and c.from_residual-in_err-sum.result c.from_residual-in_err-sum.ensures.1 in
    rw p.1 (none_wide (whole_bound c.args.multipliers.now c.args.program.now)
    (whole_wide c.args.multipliers.now c.args.program.now c.in_ok-bound.bound (rw c.rows.ensures.value at c.in_ok-bound.ensures) (rw c.constant.ensures at c.in_err-sum.ensures)))

pub returns : goal.returns
returns c =
    let e = rw c.rows.ensures.value at c.in_ok-bound.ensures in
    let s = rw c.constant.ensures at c.in_ok-sum.ensures in
    judged_unless c.is_below.result c.is_below.ensures (whole_yes c.args.multipliers.now c.args.program.now c.in_ok-bound.bound c.in_ok-sum.sum c.args.most e s.0 s.1)
    (whole_no c.args.multipliers.now c.args.program.now c.in_ok-bound.bound c.in_ok-sum.sum c.args.most e s.0)
