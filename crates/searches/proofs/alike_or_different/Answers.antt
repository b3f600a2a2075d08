use Rattle.searches.proofs.Alike as laws
use Rattle.searches.proofs.alike_or_different.Goals as goal

pub returns : goal.returns
returns c = laws.alike_or_different
