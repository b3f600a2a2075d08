use Rattle.opt_certificate.specs.Checks.{without_constant}
use Rattle.opt_certificate.proofs.Judging.{judged_by}
use Rattle.opt_certificate.proofs.Lookups.{rises_yes, rises_no}
use Rattle.opt_certificate.proofs.way.rises.Goals as goal

pub returns : goal.returns
returns c =
    let e = rw (c.zero.ensures, c.terms.ensures.terms) at c.in_ok-sum.ensures in
    judged_by c.is_positive.result c.is_positive.ensures (rises_yes (without_constant c.args.form.now) c.args.direction.now c.in_ok-sum.sum e) (rises_no (without_constant c.args.form.now) c.args.direction.now c.in_ok-sum.sum e)
