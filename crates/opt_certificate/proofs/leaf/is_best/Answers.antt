use Rattle.std.proofs.Common.{◌≤◌, arith, ap, length, false}
use Rattle.opt_certificate.proofs.Judging.{judged_as, all_columns}
use Rattle.opt_certificate.proofs.leaf.is_best.Goals as goal

pub returns : goal.returns
returns c =
    let p = c.args.program.now in
    let ys = c.args.multipliers.now in
    let cols = rw c.if-not-branch.false at c.in_ok-columns_reach.ensures in
    let few : length ys ≤ length p.rows = omega (arith, ap length c.rows.ensures.value) in
    judged_as (λ b. (few, record { signs = c.none_negative.ensures.0 c.if-not-none_negative.false; columns = all_columns false p ys c.rows.ensures.regular cols.0; constant = b })) (λ q. q.1.constant) (λ n. (cols.1, n)) (λ q. q.1) c.bound_is_within.result c.bound_is_within.ensures
