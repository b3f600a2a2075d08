use Rattle.sheet_certificates.proofs.Readable.{certificates_read_back}
use Rattle.sheet_certificates.proofs.laws.certificates_read_back.Goals as goal

pub returns : goal.returns
returns c = certificates_read_back
