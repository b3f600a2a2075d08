use Rattle.opt_certificate.proofs.Certificates as laws
use Rattle.opt_certificate.proofs.certificates_hold.Goals as goal

pub returns : goal.returns
returns c = laws.certificates_hold
