use Rattle.frac128.proofs.ReadBack.{printed_reads_back}
use Rattle.frac128.proofs.write.printed_reads_back.Goals as goal

pub returns : goal.returns
returns c = printed_reads_back
