use Rattle.searches.proofs.Fixed as laws
use Rattle.searches.proofs.closed_at_clash.Goals as goal

pub returns : goal.returns
returns c = laws.closed_at_clash
