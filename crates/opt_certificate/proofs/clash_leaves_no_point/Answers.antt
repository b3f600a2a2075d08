use Rattle.opt_certificate.proofs.Clashes as laws
use Rattle.opt_certificate.proofs.clash_leaves_no_point.Goals as goal

pub returns : goal.returns
returns c = laws.clash_leaves_no_point
