use Rattle.opt_certificate.proofs.Checked.{optimal_checked}
use Rattle.opt_certificate.proofs.checking.check_optimal.Goals as goal

pub returns-in-Ok : goal.returns-in-Ok
returns-in-Ok c =
    let p = rw c.in-Ok-true.field-0-test at c.in-Ok-true.ensures in
    λ t l. optimal_checked c.args.of.now t c.args.wanted.now c.args.point.now c.in-Ok.most c.check_tree.result c.requires.wanted p c.in-Ok.ensures (c.check_tree.ensures t l)
