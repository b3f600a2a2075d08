use Rattle.sheet_certificates.proofs.Readable.{certificates_are_readable}
use Rattle.sheet_certificates.proofs.laws.certificates_are_readable.Goals as goal

pub returns : goal.returns
returns c = certificates_are_readable
