use Rattle.commands.proofs.Certificates.{printed_whole}
use Rattle.commands.proofs.laws.certificates_are_printed.Goals as goal

pub returns : goal.returns
returns c = printed_whole
